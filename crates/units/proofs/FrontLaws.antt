-- The front of a list by a test that no member passes behind one that fails it: what a search by halves finds. So the place
-- of a member in a list that ascends by id.
use Rattle.std.proofs.Common.{◌≡◌, ℕ, zero, suc, ◌<◌, ◌≤◌, Bool, true, false, ◌||◌, cond, List, [], ◌∷◌, length, get_or, insert, refl, sym, ap, ◌∙◌}
use Rattle.std.proofs.Common.{subst, arith}
use Rattle.std.proofs.lemmas.Bool.{false≢true}
use Rattle.std.specs.List.Sorted.{IsPartitionPoint, IsPartitionedBy}
use Rattle.units.specs.Fronts.{front}
use Rattle.units.specs.Ids.{Id, same_id, older, has_id, with_id}
use Rattle.units.specs.ById.{IsById, has_member, with_member}
use Rattle.units.proofs.IdLaws.{same_id-is, same_id_comm, older_not_same, older_total, older-trans}
use Rattle.units.proofs.ByIdLaws.{AllYounger, later_are_younger, by_id-with}
use Rattle.units.proofs.ListLaws.{any-alike}

-- the place of the first that fails is the length of the front
pub point_is_front : {A : Type 0} (test : A → Bool) (xs : List A) (p : ℕ) → p ≤ length xs
    → IsPartitionPoint (λ x. test x ≡ true) (λ x. test x ≡ false) xs p → p ≡ front test xs
point_is_front test [] p le point = omega (arith, le)
point_is_front test (x ∷ xs) zero le point = rw (point.1 zero x (omega arith) (omega arith)) refl
point_is_front test (x ∷ xs) (suc p) le point =
    rw (point.0 zero x (omega arith) (omega arith)) (ap suc (point_is_front test xs p (omega (arith, le)) (
      (λ k d low high. point.0 (suc k) d (omega arith) (omega (arith, high))),
      (λ k d low high. point.1 (suc k) d (omega (arith, low)) (omega (arith, high))),
    )))

-- ---- members by id

younger_at : {A : Type 0} (id : A → Id) (t : Id) (xs : List A) (i : ℕ) (d : A) → AllYounger id t xs → i < length xs → older t (id (get_or xs i d)) ≡ true
younger_at id t [] i d all lt = absurd (omega arith)
younger_at id t (x ∷ xs) zero d all lt = all.0
younger_at id t (x ∷ xs) (suc i) d all lt = younger_at id t xs i d all.1 (omega arith)

-- those that are older than an id stand at the front
pub older_partitioned : {A : Type 0} (id : A → Id) (xs : List A) (t : Id) → IsById id xs → IsPartitionedBy (λ x. older (id x) t) xs
older_partitioned id [] t up i j d le lt is-older = absurd (omega arith)
older_partitioned id (x ∷ xs) t up zero zero d le lt is-older = is-older
older_partitioned id (x ∷ xs) t up zero (suc j) d le lt is-older =
    older-trans (id x) (id (get_or xs j d)) t (younger_at id (id x) xs j d (later_are_younger id x xs up) (omega arith)) is-older
older_partitioned id (x ∷ xs) t up (suc i) zero d le lt is-older = absurd (omega arith)
older_partitioned id (x ∷ xs) t up (suc i) (suc j) d le lt is-older = older_partitioned id xs t up.1 i j d (omega arith) (omega arith) is-older

-- no member has an id that is older than all of them
none_younger : {A : Type 0} (id : A → Id) (x : A) (xs : List A) (t : Id) → older t (id x) ≡ true → AllYounger id (id x) xs → has_member id xs t ≡ false
none_younger id x [] t first all = refl
none_younger id x (y ∷ xs) t first all =
    rw (same_id_comm (id y) t ∙ older_not_same t (id y) (older-trans t (id x) (id y) first all.0)) (none_younger id x xs t first all.1)

-- some member has an id where the one at its place has it
pub has_at : {A : Type 0} (id : A → Id) (xs : List A) (t : Id) (d : A) → IsById id xs → front (λ x. older (id x) t) xs < length xs
    → same_id (id (get_or xs (front (λ x. older (id x) t) xs) d)) t ≡ has_member id xs t
has_at id [] t d up lt = absurd (omega arith)
has_at id (x ∷ xs) t d up lt = by_first (older (id x) t) refl lt (has_at id xs t d up.1)
  where
    place : ℕ
    place = front (λ x. older (id x) t) xs

    here : (b : Bool) → same_id (id x) t ≡ b → older (id x) t ≡ false → b ≡ has_member id (x ∷ xs) t
    here true same behind = rw same refl
    here false same behind = rw same (sym (none_younger id x xs t (older_total (id x) t same behind) (later_are_younger id x xs up)))

    by_first : (b : Bool) → older (id x) t ≡ b → cond b (suc place) 0 < suc (length xs)
        → (place < length xs → same_id (id (get_or xs place d)) t ≡ has_member id xs t)
        → same_id (id (get_or (x ∷ xs) (cond b (suc place) 0) d)) t ≡ has_member id (x ∷ xs) t
    by_first true before less rest = rw (older_not_same (id x) t before) (rest (omega (arith, less)))
    by_first false before less rest = here (same_id (id x) t) refl before

-- where its place is behind them all, no member has it
pub has_past : {A : Type 0} (id : A → Id) (xs : List A) (t : Id) → length xs ≤ front (λ x. older (id x) t) xs → has_member id xs t ≡ false
has_past id [] t le = refl
has_past id (x ∷ xs) t le = by_first (older (id x) t) refl le (has_past id xs t)
  where
    place : ℕ
    place = front (λ x. older (id x) t) xs

    by_first : (b : Bool) → older (id x) t ≡ b → suc (length xs) ≤ cond b (suc place) 0
        → (length xs ≤ place → has_member id xs t ≡ false) → has_member id (x ∷ xs) t ≡ false
    by_first true before less rest = rw (older_not_same (id x) t before) (rest (omega (arith, less)))
    by_first false before less rest = absurd (omega (arith, less))

-- a new member is put in at its place
pub with_new : {A : Type 0} (id : A → Id) (xs : List A) (y : A) → has_member id xs (id y) ≡ false
    → insert xs (front (λ x. older (id x) (id y)) xs) y ≡ with_member id xs y
with_new id [] y none = refl
with_new id (x ∷ xs) y none = by_test (older (id x) (id y)) (apart (same_id (id x) (id y)) refl none) (λ n. with_new id xs y n)
  where
    place : ℕ
    place = front (λ x. older (id x) (id y)) xs

    apart : (b : Bool) → same_id (id x) (id y) ≡ b → (b || has_member id xs (id y)) ≡ false
        → (same_id (id x) (id y) ≡ false) × (has_member id xs (id y) ≡ false)
    apart true same n = cc
    apart false same n = (same, n)

    by_test : (b : Bool) → (same_id (id x) (id y) ≡ false) × (has_member id xs (id y) ≡ false)
        → (has_member id xs (id y) ≡ false → insert xs place y ≡ with_member id xs y)
        → insert (x ∷ xs) (cond b (suc place) 0) y ≡ cond (same_id (id x) (id y)) (y ∷ xs) (cond b (x ∷ with_member id xs y) (y ∷ x ∷ xs))
    by_test true n rest = rw n.0 (ap (λ l. x ∷ l) (rest n.1))
    by_test false n rest = rw n.0 refl

-- ---- ids alone

-- ids are members that are their own ids
pub has_id-is : (us : List Id) (t : Id) → has_member (λ u. u) us t ≡ has_id us t
has_id-is us t = any-alike (λ u. same_id u t) (same_id t) (λ u. same_id_comm u t) us

pub with_id-is : (us : List Id) (t : Id) → with_id us t ≡ with_member (λ u. u) us t
with_id-is [] t = refl
with_id-is (u ∷ us) t = by_tests (same_id u t) (older u t) refl (with_id-is us t)
  where
    by_tests : (a b : Bool) → same_id u t ≡ a → with_id us t ≡ with_member (λ u. u) us t
        → cond a (u ∷ us) (cond b (u ∷ with_id us t) (t ∷ u ∷ us)) ≡ cond a (t ∷ us) (cond b (u ∷ with_member (λ u. u) us t) (t ∷ u ∷ us))
    by_tests true b same rest = ap (λ v. v ∷ us) (same_id-is u t same)
    by_tests false true same rest = ap (λ l. u ∷ l) rest
    by_tests false false same rest = refl

-- ids stay in order
pub by_id-with_id : (us : List Id) (t : Id) → IsById (λ u. u) us → IsById (λ u. u) (with_id us t)
by_id-with_id us t up = subst (IsById (λ (u : Id). u)) (sym (with_id-is us t)) (by_id-with (λ u. u) us t up)

-- an id that is there is not put in again
pub with_there : (us : List Id) (t : Id) → IsById (λ u. u) us → has_id us t ≡ true → with_id us t ≡ us
with_there [] t up has = cc
with_there (u ∷ us) t up has = by_tests (same_id u t) (older u t) refl refl (with_there us t up.1)
  where
    later : same_id u t ≡ false → has_id us t ≡ true
    later other = subst (λ b. (b || has_id us t) ≡ true) (same_id_comm t u ∙ other) has

    by_tests : (a b : Bool) → same_id u t ≡ a → older u t ≡ b → (has_id us t ≡ true → with_id us t ≡ us)
        → cond a (u ∷ us) (cond b (u ∷ with_id us t) (t ∷ u ∷ us)) ≡ u ∷ us
    by_tests true b same before rest = refl
    by_tests false true same before rest = ap (λ l. u ∷ l) (rest (later same))
    by_tests false false same before rest =
        let none : has_member (λ u. u) us t ≡ false = none_younger (λ u. u) u us t (older_total u t same before) (later_are_younger (λ u. u) u us up) in
        absurd (false≢true (sym none ∙ (has_id-is us t ∙ later same)))
