-- The rows after a change: which row an id has, how many there are, and that they ascend by id.
use Rattle.std.proofs.Common.{◌≡◌, suc, ◌≤◌, Bool, true, false, ◌||◌, not, cond, List, [], ◌∷◌, length, Some, None, refl, sym, ap, subst, ◌∙◌, arith}
use Rattle.std.proofs.Common.{◌⊎◌, inl, inr}
use Rattle.std.specs.List.{AllByRecursion, list_any}
use Rattle.std.proofs.lemmas.Bool.{false≢true}
use Rattle.std.proofs.lemmas.Bool.Decides.{nat_tests}
use Rattle.units.specs.Ids.{Id, same_id, older}
use Rattle.units.specs.ById.{IsById, find_member}
use Rattle.units.specs.Locks.{Claim}
use Rattle.units.specs.declared.lock.Lock.{Lock}
use Rattle.units.proofs.IdLaws.{same_id-is, same_id-refl, older_not_same}
use Rattle.units.proofs.ByIdLaws.{find-with_same, find-with_other, find-without_other, has-without_other, all-without, by_id-keep, by_id-with}
use Rattle.units.proofs.ByIdLaws.{by_id-cons, later_are_younger}
use Rattle.protocol.specs.Rows.{Row, Phase, claim_of, claims, find_row, without_row, with_row, without_rows}
use Rattle.protocol.proofs.RowTable.{with_row-is}

-- a row by its parts
abbrev pub row_as : Id → List Lock → Phase → Row
row_as t held phase = record { txn = t; held = held; phase = phase }

-- ---- which row an id has

pub find-with_row_same : (rows : List Row) (r : Row) → find_row (with_row rows r) r.txn ≡ Some r
find-with_row_same rows r = ap (λ l. find_row l r.txn) (with_row-is rows r) ∙ find-with_same (λ (q : Row). q.txn) rows r

pub find-with_row_other : (rows : List Row) (r : Row) (t : Id) → same_id r.txn t ≡ false → find_row (with_row rows r) t ≡ find_row rows t
find-with_row_other rows r t differ =
    ap (λ l. find_row l t) (with_row-is rows r) ∙ find-with_other (λ (q : Row). q.txn) rows r t differ

-- no row is found where none has the id
pub none_found : (rows : List Row) (t : Id) → AllByRecursion (λ q. same_id q.txn t ≡ false) rows → find_row rows t ≡ None
none_found [] t none = refl
none_found (q ∷ qs) t none = rw none.0 (none_found qs t none.1)

pub find-without_row_same : (rows : List Row) (t : Id) → find_row (without_row rows t) t ≡ None
find-without_row_same rows t = none_found (without_row rows t) t (all-without (λ (q : Row). q.txn) rows t)

pub find-without_row_other : (rows : List Row) (t u : Id) → same_id u t ≡ false → find_row (without_row rows u) t ≡ find_row rows t
find-without_row_other rows t u differ = find-without_other (λ (q : Row). q.txn) rows t u differ

-- an id has its row still where several others' are taken out
pub find-without_rows_other : (rows : List Row) (us : List Id) (t : Id) → AllByRecursion (λ u. same_id u t ≡ false) us
    → find_row (without_rows rows us) t ≡ find_row rows t
find-without_rows_other rows [] t differ = refl
find-without_rows_other rows (u ∷ us) t differ =
    find-without_rows_other (without_row rows u) us t differ.1 ∙ find-without_row_other rows t u differ.0

-- where several rows are taken out, an id has its row still, or it is one of them
pub find-without_rows : (P : Id → Type 0) (rows : List Row) (us : List Id) (t : Id) → AllByRecursion P us
    → (find_row (without_rows rows us) t ≡ find_row rows t) ⊎ ((find_row (without_rows rows us) t ≡ None) × P t)
find-without_rows P rows [] t all = inl refl
find-without_rows P rows (u ∷ us) t all = by_test (same_id u t) refl (find-without_rows P (without_row rows u) us t all.1)
  where
    gone : u ≡ t → (find_row (without_rows (without_row rows u) us) t ≡ find_row (without_row rows u) t)
        ⊎ ((find_row (without_rows (without_row rows u) us) t ≡ None) × P t)
        → find_row (without_rows (without_row rows u) us) t ≡ None
    gone e (inl same) = same ∙ ap (λ v. find_row (without_row rows v) t) e ∙ find-without_row_same rows t
    gone e (inr p) = p.0

    stays : same_id u t ≡ false → (find_row (without_rows (without_row rows u) us) t ≡ find_row (without_row rows u) t)
        ⊎ ((find_row (without_rows (without_row rows u) us) t ≡ None) × P t)
        → (find_row (without_rows (without_row rows u) us) t ≡ find_row rows t) ⊎ ((find_row (without_rows (without_row rows u) us) t ≡ None) × P t)
    stays e (inl same) = inl (same ∙ find-without_row_other rows t u e)
    stays e (inr p) = inr p

    by_test : (b : Bool) → same_id u t ≡ b → (find_row (without_rows (without_row rows u) us) t ≡ find_row (without_row rows u) t)
        ⊎ ((find_row (without_rows (without_row rows u) us) t ≡ None) × P t)
        → (find_row (without_rows (without_row rows u) us) t ≡ find_row rows t) ⊎ ((find_row (without_rows (without_row rows u) us) t ≡ None) × P t)
    by_test true e rest = inr (gone (same_id-is u t e) rest, subst P (same_id-is u t e) all.0)
    by_test false e rest = stays e rest

-- each member is that of its id
pub find_members : {A : Type 0} (id : A → Id) (xs : List A) → IsById id xs → AllByRecursion (λ x. find_member id xs (id x) ≡ Some x) xs
find_members id [] up = tt
find_members {A = A} id (x ∷ xs) up = (rw (same_id-refl (id x)) refl, behind xs (later_are_younger id x xs up) (find_members id xs up.1))
  where
    behind : (ys : List A) → AllByRecursion (λ y. older (id x) (id y) ≡ true) ys → AllByRecursion (λ y. find_member id xs (id y) ≡ Some y) ys
        → AllByRecursion (λ y. find_member id (x ∷ xs) (id y) ≡ Some y) ys
    behind [] young found = tt
    behind (y ∷ ys) young found = (rw (older_not_same (id x) (id y) young.0) found.0, behind ys young.1 found.1)

-- each row is that of its id
pub find_each : (rows : List Row) → IsById (λ r. r.txn) rows → AllByRecursion (λ r. find_row rows r.txn ≡ Some r) rows
find_each rows up = find_members (λ (r : Row). r.txn) rows up

-- ---- their order

pub by_id-with_row : (rows : List Row) (r : Row) → IsById (λ q. q.txn) rows → IsById (λ q. q.txn) (with_row rows r)
by_id-with_row rows r up = subst (IsById (λ (q : Row). q.txn)) (sym (with_row-is rows r)) (by_id-with (λ (q : Row). q.txn) rows r up)

pub by_id-without_rows : (rows : List Row) (us : List Id) → IsById (λ q. q.txn) rows → IsById (λ q. q.txn) (without_rows rows us)
by_id-without_rows rows [] up = up
by_id-without_rows rows (u ∷ us) up =
    by_id-without_rows (without_row rows u) us (by_id-keep (λ (q : Row). q.txn) (λ (q : Row). not (same_id q.txn u)) rows up)

-- the rows ascend where their claims do
pub by_id-claims : (rows : List Row) → IsById (λ c. c.txn) (claims rows) → IsById (λ r. r.txn) rows
by_id-claims [] up = tt
by_id-claims (q ∷ qs) up =
    by_id-cons (λ (r : Row). r.txn) q qs (young qs (later_are_younger (λ (c : Claim). c.txn) (claim_of q) (claims qs) up)) (by_id-claims qs up.1)
  where
    young : (rs : List Row) → AllByRecursion (λ (c : Claim). older q.txn c.txn ≡ true) (claims rs) → AllByRecursion (λ (r : Row). older q.txn r.txn ≡ true) rs
    young [] all = tt
    young (r ∷ rs) all = (all.0, young rs all.1)

-- ---- how many there are

pub short-without_row : (rows : List Row) (t : Id) → length (without_row rows t) ≤ length rows
short-without_row [] t = omega arith
short-without_row (q ∷ qs) t = by_test (same_id q.txn t) (short-without_row qs t)
  where
    by_test : (b : Bool) → length (without_row qs t) ≤ length qs → length (cond (not b) (q ∷ without_row qs t) (without_row qs t)) ≤ length (q ∷ qs)
    by_test true h = omega (arith, h)
    by_test false h = omega (arith, h)

pub short-without_rows : (rows : List Row) (us : List Id) → length (without_rows rows us) ≤ length rows
short-without_rows rows [] = omega arith
short-without_rows rows (u ∷ us) = omega (arith, short-without_rows (without_row rows u) us, short-without_row rows u)

-- one more at most
pub length-with_row : (rows : List Row) (r : Row) → length (with_row rows r) ≤ suc (length rows)
length-with_row [] r = omega arith
length-with_row (q ∷ qs) r = by_tests (same_id q.txn r.txn) (older q.txn r.txn) (length-with_row qs r)
  where
    by_tests : (a b : Bool) → length (with_row qs r) ≤ suc (length qs)
        → length (cond a (r ∷ qs) (cond b (q ∷ with_row qs r) (r ∷ q ∷ qs))) ≤ suc (length (q ∷ qs))
    by_tests true b h = omega arith
    by_tests false true h = omega (arith, h)
    by_tests false false h = omega arith

-- and as many where the id has a row
pub length-with_row_same : (rows : List Row) (r : Row) → IsById (λ q. q.txn) rows → list_any (λ q. same_id q.txn r.txn) rows ≡ true
    → length (with_row rows r) ≡ length rows
length-with_row_same [] r up there = cc
length-with_row_same (q ∷ qs) r up there =
    by_tests (same_id q.txn r.txn) (older q.txn r.txn) refl refl there (λ k. length-with_row_same qs r up.1 k)
  where
    -- no row behind an id that comes first is its
    none_behind : (rs : List Row) → AllByRecursion (λ (z : Row). older q.txn z.txn ≡ true) rs → same_id q.txn r.txn ≡ false → older q.txn r.txn ≡ false
        → list_any (λ z. same_id z.txn r.txn) rs ≡ false
    none_behind [] young s o = refl
    none_behind (z ∷ zs) young s o =
        let rest : list_any (λ z. same_id z.txn r.txn) zs ≡ false = none_behind zs young.1 s o in
        let first : older q.txn z.txn ≡ true = young.0 in
        grind (arith, nat_tests)

    by_tests : (a b : Bool) → same_id q.txn r.txn ≡ a → older q.txn r.txn ≡ b → list_any (λ z. same_id z.txn r.txn) (q ∷ qs) ≡ true
        → (list_any (λ z. same_id z.txn r.txn) qs ≡ true → length (with_row qs r) ≡ length qs)
        → length (cond a (r ∷ qs) (cond b (q ∷ with_row qs r) (r ∷ q ∷ qs))) ≡ length (q ∷ qs)
    by_tests true b s o k rest = refl
    by_tests false true s o k rest = ap suc (rest (sym (ap (λ c. c || list_any (λ z. same_id z.txn r.txn) qs) s) ∙ k))
    by_tests false false s o k rest =
        let none : list_any (λ z. same_id z.txn r.txn) qs ≡ false = none_behind qs (later_are_younger (λ (z : Row). z.txn) q qs up) s o in
        absurd (false≢true (sym none ∙ sym (ap (λ c. c || list_any (λ z. same_id z.txn r.txn) qs) s) ∙ k))

pub any-without_rows : (rows : List Row) (us : List Id) (t : Id) → AllByRecursion (λ u. same_id u t ≡ false) us
    → list_any (λ q. same_id q.txn t) (without_rows rows us) ≡ list_any (λ q. same_id q.txn t) rows
any-without_rows rows [] t differ = refl
any-without_rows rows (u ∷ us) t differ =
    any-without_rows (without_row rows u) us t differ.1 ∙ has-without_other (λ (q : Row). q.txn) rows t u differ.0
