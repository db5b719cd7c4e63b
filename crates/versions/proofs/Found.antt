-- The newest of some versions, behind a threshold.
use Rattle.std.specs.Prelude.{filter}
use Rattle.std.proofs.Common.{◌≡◌, ℕ, ◌≤◌, Bool, true, false, cond, nat_lt, nat_le, List, [], ◌∷◌, Option, Some, None, refl, sym, ap, ◌∙◌, arith}
use Rattle.std.proofs.lemmas.Bool.Decides.{nat_tests}
use Rattle.units.specs.Versions.{newest}
use Rattle.units.specs.declared.writes.Install.{Install}
use Rattle.versions.specs.Pruned.{at_of}
use Rattle.versions.proofs.Newest.{newer}

-- what was found, where it is from a timestamp on
abbrev pub from_on : ℕ → Option Install → Option Install
from_on n None = None
from_on n (Some x) = cond (nat_le n x.at) (Some x) None

from-newer : (n : ℕ) (x : Install) (found : Option Install) → cond (nat_le n x.at) (newer x (from_on n found)) (from_on n found) ≡ from_on n (newer x found)
from-newer n x None = by_test (nat_le n x.at)
  where
    by_test : (c : Bool) → cond {A = Option Install} c (Some x) None ≡ cond {A = Option Install} c (Some x) None
    by_test c = refl
from-newer n x (Some y) = by_tests (nat_le n x.at) (nat_le n y.at) (nat_lt x.at y.at) refl refl refl
  where
    by_tests : (a b c : Bool) → nat_le n x.at ≡ a → nat_le n y.at ≡ b → nat_lt x.at y.at ≡ c →
        cond a (newer x (cond {A = Option Install} b (Some y) None)) (cond {A = Option Install} b (Some y) None) ≡ from_on n
        (cond {A = Option Install} c (Some y) (Some x))
    by_tests true true true h k l = rw (k, l) refl
    by_tests true true false h k l = rw (h, l) refl
    by_tests true false true h k l = absurd (grind (arith, nat_tests))
    by_tests true false false h k l = rw h refl
    by_tests false true true h k l = rw k refl
    by_tests false true false h k l = absurd (grind (arith, nat_tests))
    by_tests false false true h k l = rw k refl
    by_tests false false false h k l = rw h refl

-- the newest of those from a timestamp on
pub newest-from : (n : ℕ) (a : List Install) → newest (filter (λ i. nat_le n i.at) a) ≡ from_on n (newest a)
newest-from n [] = refl
newest-from n (x ∷ a) = by_test (nat_le n x.at) refl (newest-from n a)
  where
    by_test : (c : Bool) → nat_le n x.at ≡ c → newest (filter (λ i. nat_le n i.at) a) ≡ from_on n (newest a) →
        newest (cond c (x ∷ filter (λ i. nat_le n i.at) a) (filter (λ i. nat_le n i.at) a)) ≡ from_on n (newer x (newest a))
    by_test true k h = ap (newer x) h ∙ sym (ap (λ c. cond c (newer x (from_on n (newest a))) (from_on n (newest a))) k) ∙ from-newer n x (newest a)
    by_test false k h = h ∙ sym (ap (λ c. cond c (newer x (from_on n (newest a))) (from_on n (newest a))) k) ∙ from-newer n x (newest a)

-- the timestamps of the newest of one more
at-newer : (x : Install) (found : Option Install) (n : ℕ) → n ≤ at_of found → n ≤ at_of (newer x found)
at-newer x None n h = omega (arith, h)
at-newer x (Some y) n h = by_test (nat_lt x.at y.at) refl
  where
    by_test : (c : Bool) → nat_lt x.at y.at ≡ c → n ≤ at_of (cond {A = Option Install} c (Some y) (Some x))
    by_test true k = h
    by_test false k = grind (arith, nat_tests)

newer-more : (x : Install) (f g : Option Install) → at_of f ≤ at_of g → at_of (newer x f) ≤ at_of (newer x g)
newer-more x None None h = omega arith
newer-more x None (Some z) h = by_test (nat_lt x.at z.at) refl
  where
    by_test : (c : Bool) → nat_lt x.at z.at ≡ c → x.at ≤ at_of (cond {A = Option Install} c (Some z) (Some x))
    by_test true k = grind (arith, nat_tests)
    by_test false k = omega arith
newer-more x (Some y) None h = by_test (nat_lt x.at y.at) refl
  where
    by_test : (c : Bool) → nat_lt x.at y.at ≡ c → at_of (cond {A = Option Install} c (Some y) (Some x)) ≤ x.at
    by_test true k = absurd (grind (arith, nat_tests))
    by_test false k = omega arith
newer-more x (Some y) (Some z) h = by_tests (nat_lt x.at y.at) (nat_lt x.at z.at) refl refl
  where
    by_tests : (c d : Bool) → nat_lt x.at y.at ≡ c → nat_lt x.at z.at ≡ d →
        at_of (cond {A = Option Install} c (Some y) (Some x)) ≤ at_of (cond {A = Option Install} d (Some z) (Some x))
    by_tests true true k l = h
    by_tests true false k l = absurd (grind (arith, nat_tests))
    by_tests false true k l = grind (arith, nat_tests)
    by_tests false false k l = omega arith

-- where one test passes all that another passes, its newest is no earlier
pub newest-wider : (p q : Install → Bool) → ((x : Install) → p x ≡ true → q x ≡ true) → (a : List Install)
    → at_of (newest (filter p a)) ≤ at_of (newest (filter q a))
newest-wider p q more [] = omega arith
newest-wider p q more (x ∷ a) = by_tests (p x) (q x) refl refl (newest-wider p q more a)
  where
    by_tests : (c d : Bool) → p x ≡ c → q x ≡ d → at_of (newest (filter p a)) ≤ at_of (newest (filter q a)) →
        at_of (newest (cond c (x ∷ filter p a) (filter p a))) ≤ at_of (newest (cond d (x ∷ filter q a) (filter q a)))
    by_tests true true k l h = newer-more x (newest (filter p a)) (newest (filter q a)) h
    by_tests true false k l h = let clash : false ≡ true = sym l ∙ more x k in cc
    by_tests false true k l h = at-newer x (newest (filter q a)) (at_of (newest (filter p a))) h
    by_tests false false k l h = h

-- what was found at no less than a timestamp is from it on
pub found-from : (n : ℕ) (found : Option Install) → n ≤ at_of found → from_on n found ≡ found
found-from n None h = refl
found-from n (Some x) h = by_test (nat_le n x.at) refl
  where
    by_test : (c : Bool) → nat_le n x.at ≡ c → cond {A = Option Install} c (Some x) None ≡ Some x
    by_test true k = refl
    by_test false k = absurd (grind (arith, nat_tests))
