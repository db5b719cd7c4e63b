-- The tests of keys, told from one comparison of their bytes.
use Rattle.std.proofs.Common.{◌≡◌, ◌∙◌, ℕ, ap, not, refl, arith, Bool, List, Some, Ordering, Less, Equal, Greater, nat_cmp, is_lt, is_eq, is_ge, ◌&&◌}
use Rattle.std.proofs.Common.{◌||◌, nat_lt}
use Rattle.std.specs.Ordering.{is_some_and, partial_ordering_then}
use Rattle.std.proofs.lemmas.Bool.Decides.{nat_tests}
use Rattle.std.proofs.lemmas.Cmp.{same_from_slice_cmp}
use Rattle.std.specs.Cmp.Lexicographic.{slice_cmp}
pub use Rattle.units.specs.KeyEq.{same_by}
use Rattle.units.specs.Keys.{key_before}

pub before_by : (a b : List ℕ) (o : Ordering) → o ≡ slice_cmp nat_cmp a b → is_lt o ≡ key_before a b
before_by = same_from_slice_cmp nat_cmp is_lt key_before refl (λ _ _. refl) (λ _ _. refl) (λ x y xs ys o h. grind (arith, nat_tests))

-- an order by one test, and then by number
pub before_then : (o : Ordering) (before same : Bool) (x y : ℕ) → is_lt o ≡ before → is_eq o ≡ same →
    is_some_and is_lt (partial_ordering_then (Some o) (Some (nat_cmp x y))) ≡ (before || (same && nat_lt x y))
before_then Less before same x y e f = λ i. e i || (f i && nat_lt x y)
before_then Equal before same x y e f = number x y ∙ (λ i. e i || (f i && nat_lt x y))
  where
    number : (a b : ℕ) → is_lt (nat_cmp a b) ≡ nat_lt a b
    number a b = grind (arith, nat_tests)
before_then Greater before same x y e f = λ i. e i || (f i && nat_lt x y)

-- a key that is not before another is the same or behind it
pub not_before : (a b : List ℕ) → is_ge (slice_cmp nat_cmp a b) ≡ not (key_before a b)
not_before a b = other (slice_cmp nat_cmp a b) ∙ ap not (before_by a b (slice_cmp nat_cmp a b) refl)
  where
    other : (o : Ordering) → is_ge o ≡ not (is_lt o)
    other Less = refl
    other Equal = refl
    other Greater = refl
