-- The entries of facts: one put in its place, and all put together again.
use Rattle.std.proofs.Common.{◌≡◌, Bool, true, false, not, cond, List, [], ◌∷◌, filter, Option, Some, None, refl, sym, ap, ◌∙◌}
use Rattle.units.specs.Lists.{head}
use Rattle.units.specs.Ids.{Id, same_id, older}
use Rattle.units.specs.ById.{IsById, find_member, with_member}
use Rattle.units.proofs.Folds.{or_else}
use Rattle.units.proofs.IdLaws.{same_id-is}
use Rattle.units.proofs.ByIdLaws.{AllYounger, later_are_younger, by_id-keep, by_id-with, find-with_same, find-with_other, find_before, same_members}
use Rattle.units.proofs.ListLaws.{all-keep}
use Rattle.record.specs.Records.{Status, Unrecorded, StandsPrepared, StandsDecided, HasAborted, HasSettled, HasClosed}
use Rattle.record.specs.Facts.{TxnStatus, with_status}

abbrev pub id_of : TxnStatus → Id
id_of x = x.txn

-- ---- one put in its place

pub with_status-is : (es : List TxnStatus) (t : Id) (s : Status) → with_status es t s ≡ with_member (λ x. x.txn) es (record { txn = t; status = s })
with_status-is [] t s = refl
with_status-is (e ∷ es) t s =
    ap (λ l. cond (same_id e.txn t) (let x : TxnStatus =
    record {
      txn =
          t;
      status =
          s;
    } in x ∷ es) (cond (older e.txn t) (e ∷ l) (let x : TxnStatus = record { txn = t; status = s } in x ∷ e ∷ es))) (with_status-is es t s)

-- it has ended
abbrev pub is_ended : TxnStatus → Bool
is_ended e =
    elim e.status [
      | Unrecorded ↦ false
      | StandsPrepared p ↦ false
      | StandsDecided c ↦ false
      | HasAborted ↦ true
      | HasSettled at ps ↦ true
      | HasClosed c o ↦ true
    ]

-- an entry of an id and a status
abbrev pub entry : Id → Status → TxnStatus
entry t s = record { txn = t; status = s }

-- ---- several

-- some entries put among others
abbrev pub put_all : List TxnStatus → List TxnStatus → List TxnStatus
put_all acc [] = acc
put_all acc (e ∷ es) = put_all (with_member (λ x. x.txn) acc e) es

-- ---- entries put together again

pub or-none : (o : Option TxnStatus) → or_else o None ≡ o
or-none None = refl
or-none (Some x) = refl

pub find-first : (x : TxnStatus) (xs : List TxnStatus) (t : Id) → same_id x.txn t ≡ true → find_member id_of (x ∷ xs) t ≡ Some x
find-first x xs t e = ap (λ b. head (cond b (x ∷ filter (λ z. same_id z.txn t) xs) (filter (λ z. same_id z.txn t) xs))) e

pub find-next : (x : TxnStatus) (xs : List TxnStatus) (t : Id) → same_id x.txn t ≡ false → find_member id_of (x ∷ xs) t ≡ find_member id_of xs t
find-next x xs t e = ap (λ b. head (cond b (x ∷ filter (λ z. same_id z.txn t) xs) (filter (λ z. same_id z.txn t) xs))) e

-- behind a member there is none of its id
none-behind : (x : TxnStatus) (xs : List TxnStatus) (t : Id) → same_id x.txn t ≡ true → AllYounger id_of x.txn xs → find_member id_of xs t ≡ None
none-behind x xs t e young = ap (find_member id_of xs) (sym (same_id-is x.txn t e)) ∙ find_before id_of xs x.txn young

pub find-put : (acc xs : List TxnStatus) (t : Id) → IsById id_of xs
    → find_member id_of (put_all acc xs) t ≡ or_else (find_member id_of xs t) (find_member id_of acc t)
find-put acc [] t up = refl
find-put acc (x ∷ xs) t up = find-put (with_member id_of acc x) xs t up.1 ∙ by_test (same_id x.txn t) refl
  where
    by_test : (b : Bool) → same_id x.txn t ≡ b
        → or_else (find_member id_of xs t) (find_member id_of (with_member id_of acc x) t) ≡ or_else (find_member id_of (x ∷ xs) t) (find_member id_of acc t)
    by_test true e =
        ap (λ o. or_else o (find_member id_of (with_member id_of acc x) t)) (none-behind x xs t e (later_are_younger id_of x xs up))
        ∙ ap (find_member id_of (with_member id_of acc x)) (sym (same_id-is x.txn t e))
        ∙ find-with_same id_of acc x
        ∙ sym (ap (λ o. or_else o (find_member id_of acc t)) (find-first x xs t e))
    by_test false e =
        ap (or_else (find_member id_of xs t)) (find-with_other id_of acc x t e)
        ∙ sym (ap (λ o. or_else o (find_member id_of acc t)) (find-next x xs t e))

by_id-put : (acc xs : List TxnStatus) → IsById id_of acc → IsById id_of (put_all acc xs)
by_id-put acc [] up = up
by_id-put acc (x ∷ xs) up = by_id-put (with_member id_of acc x) xs (by_id-with id_of acc x up)

-- those that pass a test, and those that do not
find-split : (test : TxnStatus → Bool) (es : List TxnStatus) (t : Id) → IsById id_of es
    → or_else (find_member id_of (filter (λ x. not (test x)) es) t) (find_member id_of (filter test es) t) ≡ find_member id_of es t
find-split test [] t up = refl
find-split test (x ∷ es) t up = by_tests (test x) (same_id x.txn t) refl (find-split test es t up.1)
  where
    young : AllYounger id_of x.txn es
    young = later_are_younger id_of x es up

    none-kept : (p : TxnStatus → Bool) → same_id x.txn t ≡ true → find_member id_of (filter p es) t ≡ None
    none-kept p e = none-behind x (filter p es) t e (all-keep _ p es young)

    by_tests : (b c : Bool) → same_id x.txn t ≡ c
        → or_else (find_member id_of (filter (λ x. not (test x)) es) t) (find_member id_of (filter test es) t) ≡ find_member id_of es t
        → or_else (find_member id_of (cond (not b) (x ∷ filter (λ x. not (test x)) es) (filter (λ x. not (test x)) es)) t)
        (find_member id_of (cond b (x ∷ filter test es) (filter test es)) t) ≡ find_member id_of (x ∷ es) t
    by_tests true true e rest =
        ap (λ o. or_else o (find_member id_of (x ∷ filter test es) t)) (none-kept (λ x. not (test x)) e)
        ∙ find-first x (filter test es) t e ∙ sym (find-first x es t e)
    by_tests true false e rest =
        ap (or_else (find_member id_of (filter (λ x. not (test x)) es) t)) (find-next x (filter test es) t e)
        ∙ rest ∙ sym (find-next x es t e)
    by_tests false true e rest =
        ap (λ o. or_else o (find_member id_of (filter test es) t)) (find-first x (filter (λ x. not (test x)) es) t e)
        ∙ sym (find-first x es t e)
    by_tests false false e rest =
        ap (λ o. or_else o (find_member id_of (filter test es) t)) (find-next x (filter (λ x. not (test x)) es) t e)
        ∙ rest ∙ sym (find-next x es t e)

pub together : (es : List TxnStatus) → IsById id_of es → put_all (put_all [] (filter is_ended es)) (filter (λ x. not (is_ended x)) es) ≡ es
together es up =
    same_members id_of _ es (by_id-put (put_all [] (filter is_ended es)) (filter (λ x. not (is_ended x)) es) (by_id-put [] (filter is_ended es) tt)) up
    (λ t. find-put (put_all [] (filter is_ended es)) (filter (λ x. not (is_ended x)) es) t (by_id-keep id_of (λ x. not (is_ended x)) es up)
    ∙ ap (or_else (find_member id_of (filter (λ x. not (is_ended x)) es) t)) (find-put [] (filter is_ended es) t
    (by_id-keep id_of is_ended es up) ∙ or-none _)
    ∙ find-split is_ended es t up)
