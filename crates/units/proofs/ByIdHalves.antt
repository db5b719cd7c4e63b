-- The place of a member of a list that ascends by id, found by halves.
use Rattle.std.proofs.Common.{◌≡◌, ℕ, zero, suc, ◌<◌, ◌≤◌, cond, ◌||◌, is_some, Bool, true, false, not, List, [], ◌∷◌, length, get_or, Some, None}
use Rattle.std.proofs.Common.{refl, sym, ap, ◌∙◌, arith, filter}
use Rattle.std.specs.List.{position_or_len, AllByRecursion}
use Rattle.std.specs.List.Sorted.{IsPartitionedBy, IsPartitionPoint}
use Rattle.std.proofs.lemmas.Bool.{false≢true}
use Rattle.std.proofs.lemmas.Bool.Decides.{nat_tests}
use Rattle.units.specs.Lists.{head}
use Rattle.units.specs.Ids.{Id, same_id, older}
use Rattle.units.specs.ById.{IsById, has_member, find_member, without_member}
use Rattle.units.proofs.IdLaws.{older_not_same, older_total, older-trans, same_id_comm}
use Rattle.units.proofs.ByIdLaws.{AllYounger, later_are_younger, find_before}
use Rattle.units.proofs.ListLaws.{all_gives}

-- what each has, the one at a place has
all_at : {A : Type 0} (P : A → Type 0) (xs : List A) (i : ℕ) (d : A) → AllByRecursion P xs → i < length xs → P (get_or xs i d)
all_at P [] i d all lt = absurd (omega arith)
all_at P (x ∷ xs) zero d all lt = all.0
all_at P (x ∷ xs) (suc i) d all lt = all_at P xs i d all.1 (omega arith)

-- those older than an id stand first
pub older_first : {A : Type 0} (id : A → Id) (xs : List A) (t : Id) → IsById id xs → IsPartitionedBy (λ x. older (id x) t) xs
older_first id [] t up i j d le lt o = absurd (omega arith)
older_first id (x ∷ xs) t up zero zero d le lt o = o
older_first id (x ∷ xs) t up zero (suc j) d le lt o =
    older-trans (id x) (id (get_or xs j d)) t (all_at (λ y. older (id x) (id y) ≡ true) xs j d (later_are_younger id x xs up) (omega arith)) o
older_first id (x ∷ xs) t up (suc i) zero d le lt o = absurd (omega arith)
older_first id (x ∷ xs) t up (suc i) (suc j) d le lt o = older_first id xs t up.1 i j d (omega arith) (omega arith) o

-- those that are not younger stand first
pub no_younger_first : {A : Type 0} (id : A → Id) (xs : List A) (t : Id) → IsById id xs → IsPartitionedBy (λ x. not (older t (id x))) xs
no_younger_first id [] t up i j d le lt o = absurd (omega arith)
no_younger_first id (x ∷ xs) t up zero zero d le lt o = o
no_younger_first id (x ∷ xs) t up zero (suc j) d le lt o = by_test (older t (id x)) refl
  where
    by_test : (b : Bool) → older t (id x) ≡ b → not b ≡ true
    by_test true e =
        absurd (false≢true (sym (ap not (older-trans t (id x) (id (get_or xs j d)) e
        (all_at (λ y. older (id x) (id y) ≡ true) xs j d (later_are_younger id x xs up) (omega arith)))) ∙ o))
    by_test false e = refl
no_younger_first id (x ∷ xs) t up (suc i) zero d le lt o = absurd (omega arith)
no_younger_first id (x ∷ xs) t up (suc i) (suc j) d le lt o = no_younger_first id xs t up.1 i j d (omega arith) (omega arith) o

-- an id that is older than each member's has no member
none_before : {A : Type 0} (id : A → Id) (xs : List A) (t : Id) → AllYounger id t xs → has_member id xs t ≡ false
none_before id [] t young = refl
none_before id (x ∷ xs) t young = rw (same_id_comm (id x) t ∙ older_not_same t (id x) young.0) (none_before id xs t young.1)

-- an id that is older than the first member's is older than each one's
younger_than_before : {A : Type 0} (id : A → Id) (x : A) (xs : List A) (t : Id) → older t (id x) ≡ true → IsById id (x ∷ xs) → AllYounger id t xs
younger_than_before id x xs t before up =
    all_gives (λ y. older (id x) (id y) ≡ true) (λ y. older t (id y) ≡ true) (λ y k. older-trans t (id x) (id y) before k) xs
    (later_are_younger id x xs up)

-- the members behind the first are parted one place before
parted_behind : {A : Type 0} (x : A) (xs : List A) (p : A → Bool) (i : ℕ)
    → IsPartitionPoint (λ x. p x ≡ true) (λ x. p x ≡ false) (x ∷ xs) (suc i) → IsPartitionPoint (λ x. p x ≡ true) (λ x. p x ≡ false) xs i
parted_behind x xs p i w = ((λ k d a b. w.0 (suc k) d (omega arith) (omega arith)), (λ k d a b. w.1 (suc k) d (omega arith) (omega arith)))

-- where a member of an id is, it stands behind the older ones
pub place_by_halves : {A : Type 0} (id : A → Id) (xs : List A) (t : Id) (i : ℕ) → IsById id xs → has_member id xs t ≡ true
    → IsPartitionPoint (λ x. older (id x) t ≡ true) (λ x. older (id x) t ≡ false) xs i → i ≡ position_or_len (λ x. same_id (id x) t) xs
place_by_halves id [] t i up h w = cc
place_by_halves id (x ∷ xs) t zero up h w = by_test (same_id (id x) t) refl
  where
    first : older (id x) t ≡ false
    first = w.1 0 x (omega arith) (omega arith)

    by_test : (b : Bool) → same_id (id x) t ≡ b → 0 ≡ position_or_len (λ y. same_id (id y) t) (x ∷ xs)
    by_test true e = rw e refl
    by_test false e =
        let before : older t (id x) ≡ true = older_total (id x) t e first in
        let none : has_member id xs t ≡ false = none_before id xs t
        (younger_than_before id x xs t before up) in
        absurd (false≢true (sym none ∙ (rw e at h)))
place_by_halves id (x ∷ xs) t (suc i) up h w =
    let other : same_id (id x) t ≡ false = older_not_same (id x) t (w.0 0 x (omega arith) (omega arith)) in
    let rest : i ≡ position_or_len (λ y. same_id (id y) t) xs =
    place_by_halves id xs t i up.1 (rw other at h) (parted_behind x xs (λ z. older (id z) t) i w) in
    rw other (omega (arith, rest))

-- one that is put in stands before the first younger one
pub place_for_by_halves : {A : Type 0} (id : A → Id) (xs : List A) (t : Id) (i : ℕ) → i ≤ length xs
    → IsPartitionPoint (λ x. not (older t (id x)) ≡ true) (λ x. not (older t (id x)) ≡ false) xs i → i ≡ position_or_len (λ x. older t (id x)) xs
place_for_by_halves id [] t i le w = omega (arith, le)
place_for_by_halves id (x ∷ xs) t zero le w = let h : not (older t (id x)) ≡ false = w.1 0 x (omega arith) (omega arith) in grind (arith, nat_tests, h)
place_for_by_halves id (x ∷ xs) t (suc i) le w =
    let h : not (older t (id x)) ≡ true = w.0 0 x (omega arith) (omega arith) in
    let rest : i ≡ position_or_len (λ y. older t (id y)) xs =
    place_for_by_halves id xs t i (omega arith) (parted_behind x xs (λ z. not (older t (id z))) i w) in
    rw h (omega (arith, rest))

-- the member that stands behind the older ones, where it has the id, is the one of the id
pub found_by_halves : {A : Type 0} (id : A → Id) (xs : List A) (t : Id) (i : ℕ) (y : A) → i < length xs → y ≡ get_or xs i y → same_id (id y) t ≡ true
    → IsPartitionPoint (λ x. older (id x) t ≡ true) (λ x. older (id x) t ≡ false) xs i → find_member id xs t ≡ Some y
found_by_halves id [] t i y lt at same w = absurd (omega arith)
found_by_halves id (x ∷ xs) t zero y lt at same w =
    let here : same_id (id x) t ≡ true = ap (λ z. same_id (id z) t) (sym at) ∙ same in
    rw here (ap (λ z. Some z) (sym at))
found_by_halves id (x ∷ xs) t (suc i) y lt at same w =
    let other : same_id (id x) t ≡ false = older_not_same (id x) t (w.0 0 x (omega arith) (omega arith)) in
    rw other (found_by_halves id xs t i y (omega arith) at same (parted_behind x xs (λ z. older (id z) t) i w))

-- and where it has not, no member has it
pub none_by_halves : {A : Type 0} (id : A → Id) (xs : List A) (t : Id) (i : ℕ) → IsById id xs
    → ((y : A) → i < length xs → y ≡ get_or xs i y → same_id (id y) t ≡ false)
    → IsPartitionPoint (λ x. older (id x) t ≡ true) (λ x. older (id x) t ≡ false) xs i → find_member id xs t ≡ None
none_by_halves id [] t i up differs w = refl
none_by_halves id (x ∷ xs) t zero up differs w =
    let e : same_id (id x) t ≡ false = differs x (omega arith) refl in
    let before : older t (id x) ≡ true = older_total (id x) t e (w.1 0 x (omega arith) (omega arith)) in
    rw e (find_before id xs t (younger_than_before id x xs t before up))
none_by_halves id (x ∷ xs) t (suc i) up differs w =
    let other : same_id (id x) t ≡ false = older_not_same (id x) t (w.0 0 x (omega arith) (omega arith)) in
    rw other (none_by_halves id xs t i up.1 (λ y lt at. differs y (omega arith) at) (parted_behind x xs (λ z. older (id z) t) i w))

-- whether a member is found
pub found_or_not : {A : Type 0} (id : A → Id) (xs : List A) (t : Id) → is_some (find_member id xs t) ≡ has_member id xs t
found_or_not id [] t = refl
found_or_not id (x ∷ xs) t = by_test (same_id (id x) t) (found_or_not id xs t)
  where
    by_test : (b : Bool) → is_some (find_member id xs t) ≡ has_member id xs t
        → is_some (head (cond b (x ∷ filter (λ y. same_id (id y) t) xs) (filter (λ y. same_id (id y) t) xs))) ≡ (b || has_member id xs t)
    by_test true e = refl
    by_test false e = e

-- nothing is taken out where no member has the id
pub without_absent : {A : Type 0} (id : A → Id) (xs : List A) (t : Id) → has_member id xs t ≡ false → without_member id xs t ≡ xs
without_absent id [] t h = refl
without_absent id (x ∷ xs) t h = by_test (same_id (id x) t) h (without_absent id xs t)
  where
    by_test : (b : Bool) → (b || has_member id xs t) ≡ false → (has_member id xs t ≡ false → without_member id xs t ≡ xs)
        → cond (not b) (x ∷ without_member id xs t) (without_member id xs t) ≡ x ∷ xs
    by_test true e rest = absurd (false≢true (sym e))
    by_test false e rest = ap (λ r. x ∷ r) (rest e)
