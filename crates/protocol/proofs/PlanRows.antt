-- The rows under a plan: several ended at once, a row put twice, a row that is there.
use Rattle.std.proofs.Common.{◌≡◌, ◌∙◌, true, false, not, ◌&&◌, List, [], ◌∷◌, map, Some, refl, sym, ap, filter}
use Rattle.std.specs.List.{AllByRecursion, list_any}
use Rattle.units.specs.Ids.{Id, same_id, older}
use Rattle.units.specs.ById.{IsById, with_member}
use Rattle.units.specs.Locks.{Claim, wounded, is_free, others, blockers, may_wound, clash}
use Rattle.units.specs.declared.lock.Lock.{Lock}
use Rattle.units.proofs.IdLaws.{same_id_comm}
use Rattle.units.proofs.ListLaws.{all-keep}
use Rattle.units.proofs.ByIdLaws.{by_id-keep, all-without, find-with_same, find-without_other}
use Rattle.units.proofs.ByIdTwice.{without-with_same, with-with_same, without-with_other}
use Rattle.protocol.specs.Rows.{Row, Phase, claims, find_row, without_row, with_row, held_by, without_rows, held_in}
use Rattle.protocol.proofs.RowTable.{with_row-is, claims-without_row}

-- the rows ascend by id
abbrev pub Ascend : List Row → Type 0
Ascend rows = IsById (λ r. r.txn) rows

-- none of these ids is that of the transaction
abbrev pub AllOther : Id → List Id → Type 0
AllOther t us = AllByRecursion (λ u. same_id t u ≡ false) us

-- ---- one row

-- a row that is put twice stands as it was put in last
pub with_row-twice : (rows : List Row) (q r : Row) → r.txn ≡ q.txn → with_row (with_row rows q) r ≡ with_row rows r
with_row-twice rows q r e =
    with_row-is (with_row rows q) r
    ∙ ap (λ l. with_member (λ (x : Row). x.txn) l r) (with_row-is rows q)
    ∙ with-with_same (λ x. x.txn) rows q r e
    ∙ sym (with_row-is rows r)

-- what is put is found
pub find-with_row : (rows : List Row) (r : Row) → find_row (with_row rows r) r.txn ≡ Some r
find-with_row rows r = ap (λ l. find_row l r.txn) (with_row-is rows r) ∙ find-with_same (λ x. x.txn) rows r

-- a row that is put and then put with another phase
pub put_again : (rows : List Row) (t : Id) (held : List Lock) (before after : Phase)
    → with_row (with_row rows (record { txn = t; held = held; phase = before }))
    (record { txn = t; held = held_in (with_row rows (record { txn = t; held = held; phase = before })) t; phase = after })
    ≡ with_row rows (record { txn = t; held = held; phase = after })
put_again rows t held before after =
    let q : Row = record { txn = t; held = held; phase = before } in
    ap (λ o. with_row (with_row rows q) (record { txn = t; held = held_by o; phase = after })) (find-with_row rows q)
    ∙ with_row-twice rows q (record { txn = t; held = held; phase = after }) refl

-- a row that is put and dropped
pub without-with_row : (rows : List Row) (r : Row) → without_row (with_row rows r) r.txn ≡ without_row rows r.txn
without-with_row rows r = ap (λ l. without_row l r.txn) (with_row-is rows r) ∙ without-with_same (λ x. x.txn) rows r

-- ---- several rows

-- one row is put, others are dropped, in any turn
pub without_rows-with : (rows : List Row) (r : Row) (ts : List Id) → Ascend rows → AllOther r.txn ts
    → without_rows (with_row rows r) ts ≡ with_row (without_rows rows ts) r
without_rows-with rows r [] up differ = refl
without_rows-with rows r (t ∷ ts) up differ =
    ap (λ l. without_rows l ts)
    (ap (λ l. without_row l t) (with_row-is rows r) ∙ without-with_other (λ x. x.txn) rows r t up differ.0 ∙ sym (with_row-is (without_row rows t) r))
    ∙ without_rows-with (without_row rows t) r ts (by_id-keep (λ q. q.txn) (λ q. not (same_id q.txn t)) rows up) differ.1

-- the row of another stays
pub find-without_rows : (rows : List Row) (t : Id) (us : List Id) → AllOther t us → find_row (without_rows rows us) t ≡ find_row rows t
find-without_rows rows t [] differ = refl
find-without_rows rows t (u ∷ us) differ =
    find-without_rows (without_row rows u) t us differ.1
    ∙ find-without_other (λ (r : Row). r.txn) rows t u (same_id_comm u t ∙ differ.0)

-- ---- those that are ended one by one

ids_differ : (t : Id) (cs : List Claim) → AllByRecursion (λ c. same_id c.txn t ≡ false) cs → AllOther t (map (λ c. c.txn) cs)
ids_differ t [] all = tt
ids_differ t (c ∷ cs) all = (same_id_comm t c.txn ∙ all.0, ids_differ t cs all.1)

pub wounded-differ : (table : List Claim) (t : Id) (needs : List Lock) → AllOther t (wounded table t needs)
unfolding wounded
wounded-differ table t needs =
    let Differs : Claim → Type 0 = λ c. same_id c.txn t ≡ false in
    ids_differ t (filter (may_wound t) (blockers table t needs))
    (all-keep Differs (may_wound t) (blockers table t needs)
    (all-keep Differs (λ c. clash c.held needs) (others table t) (all-without (λ (c : Claim). c.txn) table t)))

-- who is wounded, and whether a request is granted, is said by the others alone
pub wounded-alike : (one other : List Claim) (t : Id) (needs : List Lock) → others one t ≡ others other t → wounded one t needs ≡ wounded other t needs
unfolding wounded
wounded-alike one other t needs e =
    ap (λ (cs : List Claim). map (λ (c : Claim). c.txn) (filter (may_wound t) (filter (λ (c : Claim). clash c.held needs) cs))) e

pub is_free-alike : (one other : List Claim) (t : Id) (needs : List Lock) → others one t ≡ others other t → is_free one t needs ≡ is_free other t needs
unfolding is_free
is_free-alike one other t needs e =
    ap (λ (cs : List Claim).
    not (list_any (λ (c : Claim). true) (filter (λ (c : Claim). clash c.held needs) cs))
    && not (list_any (λ (c : Claim). true) (filter (λ (c : Claim). older c.txn t && clash c.needs needs) cs))) e

-- a row's own claim is none of them
pub others-with_row : (rows : List Row) (r : Row) → others (claims (with_row rows r)) r.txn ≡ others (claims rows) r.txn
others-with_row rows r =
    sym (claims-without_row (with_row rows r) r.txn) ∙ ap claims (without-with_row rows r) ∙ claims-without_row rows r.txn
