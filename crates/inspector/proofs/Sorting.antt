-- Lists that were sorted, and the run of the members that tie with one.
use Rattle.std.specs.List.{list_all}
use Rattle.std.specs.List.Sorted.{IsPartitionedBy, IsSortedBy, ties}
use Rattle.std.specs.Cmp.{IsStrictWeakOrder}
use Rattle.std.proofs.Common.{◌≡◌, ◌∙◌, ℕ, zero, suc, ◌<◌, ◌≤◌, Bool, true, false, not, ◌&&◌, cond, List, [], ◌∷◌, drop, filter, get_or, length, take}
use Rattle.std.proofs.Common.{refl, sym, ap, arith}
use Rattle.std.proofs.lemmas.Bool.{and_parts, and_from, false≢true}
use Rattle.std.proofs.lemmas.List.Sorted.{sorted_far}
use Rattle.units.specs.Fronts.{front}
use Rattle.inspector.specs.Ascending.{AscendsBy}

-- a test that each member passes
all_at : {A : Type 0} (test : A → Bool) (xs : List A) → ((i : ℕ) (d : A) → i < length xs → test (get_or xs i d) ≡ true) → list_all test xs ≡ true
all_at test [] passes = refl
all_at test (x ∷ xs) passes = and_from _ _ (passes 0 x (omega arith)) (all_at test xs (λ i d lt. passes (suc i) d (omega (arith, lt))))

-- no later member comes before an earlier one
far : {A : Type 0} (less : A → A → Bool) (xs : List A) → ((i j : ℕ) (d : A) → i ≤ j → j < length xs → less (get_or xs j d) (get_or xs i d) ≡ false)
    → AscendsBy less xs
far less [] apart = tt
far less (x ∷ xs) apart = (
  all_at (λ y. not (less y x)) xs (λ i d lt. ap not (apart 0 (suc i) d (omega arith) (omega (arith, lt)))),
  far less xs (λ i j d le lt. apart (suc i) (suc j) d (omega (arith, le)) (omega (arith, lt))),
)

pub ascends_from_sorted : {A : Type 0} (less : A → A → Bool) → IsStrictWeakOrder less → (xs : List A) → IsSortedBy less xs → AscendsBy less xs
ascends_from_sorted less order xs sorted = far less xs (sorted_far less order xs sorted)

-- ---- the run of those that tie with one

-- those that tie with x, where no member comes before x
ties_first : {A : Type 0} (less : A → A → Bool) → IsStrictWeakOrder less → (x : A) (xs : List A) → AscendsBy less xs → list_all (λ y. not (less y x)) xs ≡ true
    → take (front (λ y. not (less x y)) xs) xs ≡ filter (ties less x) xs
ties_first less order x [] up all = refl
ties_first {A = A} less order x (y ∷ ys) up all =
    by_tests (less x y) (less y x) refl (and_parts _ _ all) (ties_first less order x ys up.1 ((and_parts _ _ all).1))
  where
    -- those behind a later one come later too
    none_ties : less x y ≡ true → (zs : List A) → list_all (λ z. not (less z y)) zs ≡ true → filter (ties less x) zs ≡ []
    none_ties later [] all = refl
    none_ties later (z ∷ zs) all =
        let not_before : less z y ≡ false = not_false (less z y) (and_parts _ _ all).0 in
        let after : less x z ≡ true = not_tied (less x z) refl not_before in
        rw after (none_ties later zs (and_parts _ _ all).1)
      where
        not_false : (b : Bool) → not b ≡ true → b ≡ false
        not_false true e = cc
        not_false false e = refl

        not_tied : (b : Bool) → less x z ≡ b → less z y ≡ false → less x z ≡ true
        not_tied true is e = is
        not_tied false is e = absurd (apart (less x y) (order.chain x z y is e) later)
          where
            apart : (b : Bool) → b ≡ false → b ≡ true → ⊥
            apart true e f = cc
            apart false e f = cc

    by_tests : (a b : Bool) → less x y ≡ a → (not b ≡ true) × (list_all (λ z. not (less z x)) ys ≡ true)
        → take (front (λ z. not (less x z)) ys) ys ≡ filter (ties less x) ys
        → take (cond (not a) (suc (front (λ z. not (less x z)) ys)) 0) (y ∷ ys) ≡ cond (not a && not b) (y ∷ filter (ties less x) ys) (filter (ties less x) ys)
    by_tests true b is p rest = sym (none_ties is ys up.0)
    by_tests false true is p rest = cc
    by_tests false false is p rest = ap (λ l. y ∷ l) rest

-- those that tie with x stand behind those that come before it
pub ties_run : {A : Type 0} (less : A → A → Bool) → IsStrictWeakOrder less → (x : A) (xs : List A) → AscendsBy less xs
    → take (front (λ y. not (less x y)) (drop (front (λ y. less y x) xs) xs)) (drop (front (λ y. less y x) xs) xs) ≡ filter (ties less x) xs
ties_run less order x [] up = refl
ties_run {A = A} less order x (y ∷ ys) up = by_test (less y x) refl (ties_run less order x ys up.1)
  where
    rest_of : List A → List A
    rest_of zs = drop (front (λ z. less z x) zs) zs

    and_none : (b : Bool) → (b && false) ≡ false
    and_none true = refl
    and_none false = refl

    none_before : less y x ≡ false → (zs : List A) → list_all (λ z. not (less z y)) zs ≡ true → list_all (λ z. not (less z x)) zs ≡ true
    none_before is [] all = refl
    none_before is (z ∷ zs) all =
        and_from _ _ (ap not (order.chain z y x (not_true (less z y) (and_parts _ _ all).0) is)) (none_before is zs (and_parts _ _ all).1)
      where
        not_true : (b : Bool) → not b ≡ true → b ≡ false
        not_true true e = cc
        not_true false e = refl

    by_test : (b : Bool) → less y x ≡ b → take (front (λ z. not (less x z)) (rest_of ys)) (rest_of ys) ≡ filter (ties less x) ys
        → take (front (λ z. not (less x z)) (drop (cond b (suc (front (λ z. less z x) ys)) 0) (y ∷ ys)))
        (drop (cond b (suc (front (λ z. less z x) ys)) 0) (y ∷ ys))
        ≡ cond (not (less x y) && not b) (y ∷ filter (ties less x) ys) (filter (ties less x) ys)
    by_test true is rest = rest ∙ ap (λ c. cond c (y ∷ filter (ties less x) ys) (filter (ties less x) ys)) (sym (and_none (not (less x y))))
    by_test false is rest =
        ties_first less order x (y ∷ ys) up (and_from _ _ (ap not is) (none_before is ys up.0))
        ∙ ap (λ c. cond (not (less x y) && not c) (y ∷ filter (ties less x) ys) (filter (ties less x) ys)) is

-- ---- what a search by halves asks

pass_at : {A : Type 0} (test : A → Bool) (xs : List A) (i : ℕ) (d : A) → list_all test xs ≡ true → i < length xs → test (get_or xs i d) ≡ true
pass_at test [] i d all lt = absurd (omega arith)
pass_at test (x ∷ xs) zero d all lt = (and_parts _ _ all).0
pass_at test (x ∷ xs) (suc i) d all lt = pass_at test xs i d (and_parts _ _ all).1 (omega (arith, lt))

is_false : (b : Bool) → not b ≡ true → b ≡ false
is_false true e = cc
is_false false e = refl

not_before : {A : Type 0} (less : A → A → Bool) (x : A) (xs : List A) (j : ℕ) (d : A) → list_all (λ y. not (less y x)) xs ≡ true → j < length xs
    → less (get_or xs j d) x ≡ false
not_before less x xs j d all lt = is_false _ (pass_at (λ y. not (less y x)) xs j d all lt)

-- those that come before one stand at the front
pub before_partitioned : {A : Type 0} (less : A → A → Bool) → IsStrictWeakOrder less → (x : A) (xs : List A) → AscendsBy less xs
    → IsPartitionedBy (λ y. less y x) xs
before_partitioned less order x [] up i j d le lt is = absurd (omega arith)
before_partitioned less order x (y ∷ ys) up zero zero d le lt is = is
before_partitioned less order x (y ∷ ys) up zero (suc j) d le lt is = by_test (less y x) refl
  where
    later : less (get_or ys j d) y ≡ false
    later = not_before less y ys j d up.0 (omega (arith, lt))

    by_test : (b : Bool) → less y x ≡ b → less y x ≡ true
    by_test true e = e
    by_test false e = absurd (false≢true (sym (order.chain (get_or ys j d) y x later e) ∙ is))
before_partitioned less order x (y ∷ ys) up (suc i) zero d le lt is = absurd (omega arith)
before_partitioned less order x (y ∷ ys) up (suc i) (suc j) d le lt is = before_partitioned less order x ys up.1 i j d (omega (arith, le))
    (omega (arith, lt)) is

-- and so do those that don't come after one
pub not_after_partitioned : {A : Type 0} (less : A → A → Bool) → IsStrictWeakOrder less → (x : A) (xs : List A) → AscendsBy less xs
    → IsPartitionedBy (λ y. not (less x y)) xs
not_after_partitioned less order x [] up i j d le lt is = absurd (omega arith)
not_after_partitioned less order x (y ∷ ys) up zero zero d le lt is = is
not_after_partitioned less order x (y ∷ ys) up zero (suc j) d le lt is =
    ap not (order.chain x (get_or ys j d) y (is_false _ is) (not_before less y ys j d up.0 (omega (arith, lt))))
not_after_partitioned less order x (y ∷ ys) up (suc i) zero d le lt is = absurd (omega arith)
not_after_partitioned less order x (y ∷ ys) up (suc i) (suc j) d le lt is = not_after_partitioned less order x ys up.1 i j d (omega (arith, le))
    (omega (arith, lt)) is

pub ascends_drop : {A : Type 0} (less : A → A → Bool) (n : ℕ) (xs : List A) → AscendsBy less xs → AscendsBy less (drop n xs)
ascends_drop less zero xs up = up
ascends_drop less (suc n) [] up = up
ascends_drop less (suc n) (x ∷ xs) up = ascends_drop less n xs up.1
