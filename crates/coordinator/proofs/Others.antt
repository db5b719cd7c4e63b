-- The shards of a transaction other than one.
use Rattle.std.specs.List.{list_any}
use Rattle.std.proofs.Common.{◌≡◌, ℕ, Bool, true, false, not, cond, ◌&&◌, ◌||◌, nat_eq, List, [], ◌∷◌, refl, sym, ap, ◌∙◌, arith}
use Rattle.std.proofs.lemmas.Bool.Decides.{nat_tests}
use Rattle.units.specs.Lists.{has}
use Rattle.protocol.specs.Cells.{other_parts}

-- a number that is one of two is the other, where they are the same
same_as : (m n k : ℕ) → nat_eq m k ≡ true → nat_eq k n ≡ nat_eq m n
same_as m n k e = let same : m ≡ k = grind (arith, nat_tests) in ap (λ a. nat_eq a n) (sym same)

-- some of the others pass a test
any_other : (test : ℕ → Bool) (n k : ℕ) (ks : List ℕ)
    → list_any test (other_parts n (k ∷ ks)) ≡ ((not (nat_eq k n) && test k) || list_any test (other_parts n ks))
any_other test n k ks =
    elim (nat_eq k n) as (λ a. list_any test (cond (not a) (k ∷ other_parts n ks) (other_parts n ks)) ≡
    ((not a && test k) || list_any test (other_parts n ks))) [
      | true ↦ refl
      | false ↦ refl
    ]

-- a shard is one of the others where it is one of them all, and not the one
pub other_part : (n : ℕ) (ps : List ℕ) (m : ℕ) → has (other_parts n ps) m ≡ (not (nat_eq m n) && has ps m)
other_part n [] m = none (nat_eq m n)
  where
    none : (a : Bool) → false ≡ (not a && false)
    none true = refl
    none false = refl
other_part n (k ∷ ks) m =
    any_other (nat_eq m) n k ks
    ∙ ap (λ h. (not (nat_eq k n) && nat_eq m k) || h) (other_part n ks m)
    ∙ by_tests (nat_eq k n) (nat_eq m k) (nat_eq m n) (has ks m) (same_as m n k)
  where
    same_word : (c h : Bool) → ((not c && true) || (not c && h)) ≡ (not c && true)
    same_word true h = refl
    same_word false h = refl

    no_word : (a r : Bool) → ((not a && false) || r) ≡ r
    no_word true r = refl
    no_word false r = refl

    by_tests : (a b c h : Bool) → (b ≡ true → a ≡ c) → ((not a && b) || (not c && h)) ≡ (not c && (b || h))
    by_tests a true c h same = ap (λ d. (not d && true) || (not c && h)) (same refl) ∙ same_word c h
    by_tests a false c h same = no_word a (not c && h)
