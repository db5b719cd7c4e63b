-- The rows that an opening finds: one for each promise and decision that stands, by ascending id.
use Rattle.std.proofs.Common.{◌≡◌, Bool, true, false, cond, List, [], ◌∷◌, Option, Some, None, refl, sym, ap, subst, ◌∙◌, filter}
use Rattle.std.specs.List.{AllByRecursion}
use Rattle.units.specs.Lists.{follow, gather, head}
use Rattle.units.specs.Ids.{Id, same_id, older}
use Rattle.units.specs.ById.{IsById, find_member}
use Rattle.units.proofs.IdLaws.{same_id-is, same_id_comm, older_not_same}
use Rattle.units.proofs.ListLaws.{all_gives}
use Rattle.units.proofs.ByIdLaws.{by_id-cons, later_are_younger}
use Rattle.record.specs.Facts.{TxnStatus}
use Rattle.protocol.specs.Rows.{Row, find_row, standing_row}
use Rattle.protocol.proofs.RowChanges.{none_found}

-- the row of an entry has its id
abbrev pub IsOwn : TxnStatus → Type 0
IsOwn e = (r : Row) → standing_row e ≡ Some r → r.txn ≡ e.txn

-- what each entry gives its row, each row has
pub all-gather : (P : TxnStatus → Type 0) (Q : Row → Type 0) → ((e : TxnStatus) (r : Row) → standing_row e ≡ Some r → P e → Q r)
    → (es : List TxnStatus) → AllByRecursion P es → AllByRecursion Q (gather standing_row es)
all-gather P Q h [] all = tt
all-gather P Q h (e ∷ es) all = by_row (standing_row e) refl (all-gather P Q h es all.1)
  where
    by_row : (o : Option Row) → standing_row e ≡ o → AllByRecursion Q (gather standing_row es)
        → AllByRecursion Q (elim o as (λ x. List Row) [ None ↦ gather standing_row es | Some r ↦ r ∷ gather standing_row es ])
    by_row None k rest = rest
    by_row (Some r) k rest = (h e r k all.0, rest)

both_facts : (P Q : TxnStatus → Type 0) (es : List TxnStatus) → AllByRecursion P es → AllByRecursion Q es → AllByRecursion (λ e. P e × Q e) es
both_facts P Q [] p q = tt
both_facts P Q (e ∷ es) p q = ((p.0, q.0), both_facts P Q es p.1 q.1)

-- the rows of entries behind one are younger than it
rows_younger : (t : Id) (es : List TxnStatus) → AllByRecursion (λ e. older t e.txn ≡ true) es → AllByRecursion IsOwn es
    → AllByRecursion (λ (r : Row). older t r.txn ≡ true) (gather standing_row es)
rows_younger t es young own =
    all-gather (λ e. (older t e.txn ≡ true) × IsOwn e) (λ r. older t r.txn ≡ true) (λ e r k p. ap (older t) (p.1 r k) ∙ p.0) es
    (both_facts (λ (e : TxnStatus). older t e.txn ≡ true) IsOwn es young own)

pub by_id-gather : (es : List TxnStatus) → IsById (λ e. e.txn) es → AllByRecursion IsOwn es → IsById (λ r. r.txn) (gather standing_row es)
by_id-gather [] up own = tt
by_id-gather (e ∷ es) up own = by_row (standing_row e) refl (by_id-gather es up.1 own.1)
  where
    by_row : (o : Option Row) → standing_row e ≡ o → IsById (λ (r : Row). r.txn) (gather standing_row es)
        → IsById (λ (r : Row). r.txn) (elim o as (λ x. List Row) [ None ↦ gather standing_row es | Some r ↦ r ∷ gather standing_row es ])
    by_row None k rest = rest
    by_row (Some r) k rest =
        by_id-cons (λ (q : Row). q.txn) r (gather standing_row es)
        (rows_younger r.txn es (subst (λ t. AllByRecursion (λ (f : TxnStatus). older t f.txn ≡ true) es) (sym (own.0 r k))
        (later_are_younger (λ (f : TxnStatus). f.txn) e es up)) own.1) rest

-- no row is found of an id that all are younger than
none_younger : (rows : List Row) (t : Id) → AllByRecursion (λ r. older t r.txn ≡ true) rows → find_row rows t ≡ None
none_younger rows t young =
    none_found rows t
    (all_gives (λ (r : Row). older t r.txn ≡ true) (λ (r : Row). same_id r.txn t ≡ false) (λ r o. same_id_comm r.txn t ∙ older_not_same t r.txn o) rows young)

-- the row of an id is that of its entry
pub find-gather : (es : List TxnStatus) (t : Id) → IsById (λ e. e.txn) es → AllByRecursion IsOwn es
    → find_row (gather standing_row es) t ≡ follow (find_member (λ e. e.txn) es t) standing_row
find-gather [] t up own = refl
find-gather (e ∷ es) t up own =
    by_row (standing_row e) (same_id e.txn t) refl refl (find-gather es t up.1 own.1)
  where
    rest : List Row
    rest = gather standing_row es

    -- where the entry is the id's, no row behind it is
    none_behind : same_id e.txn t ≡ true → find_row rest t ≡ None
    none_behind s =
        let is : e.txn ≡ t = same_id-is e.txn t s in
        none_younger rest t (rows_younger t es (subst (λ u. AllByRecursion (λ (f : TxnStatus). older u f.txn ≡ true) es) is
        (later_are_younger (λ (f : TxnStatus). f.txn) e es up)) own.1)

    by_row : (o : Option Row) (b : Bool) → standing_row e ≡ o → same_id e.txn t ≡ b → find_row rest t ≡
        follow (find_member (λ (f : TxnStatus). f.txn) es t) standing_row
        → find_row (elim o as (λ x. List Row) [ None ↦ rest | Some r ↦ r ∷ rest ]) t
        ≡ follow (head (cond b (e ∷ filter (λ (f : TxnStatus). same_id f.txn t) es) (filter (λ (f : TxnStatus). same_id f.txn t) es))) standing_row
    by_row None true k s ih = none_behind s ∙ sym k
    by_row None false k s ih = ih
    by_row (Some r) true k s ih = rw (ap (λ u. same_id u t) (own.0 r k) ∙ s) (sym k)
    by_row (Some r) false k s ih = rw (ap (λ u. same_id u t) (own.0 r k) ∙ s) ih
