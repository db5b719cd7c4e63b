-- The least of some numbers, one after another.
use Rattle.std.proofs.Common.{◌≡◌, ℕ, zero, suc, ◌+◌, ◌-◌, ◌<◌, min, map, List, [], ◌∷◌, length, get_or, drop, sym, ap, ◌∙◌, arith, add-one}
use Rattle.units.specs.Lists.{least_with}

swap : (x m r : ℕ) → min m (min x r) ≡ min x (min m r)
swap x m r = omega arith

least_min : (m n : ℕ) (t : List ℕ) → least_with (min m n) t ≡ min n (least_with m t)
least_min m n [] = omega arith
least_min m n (x ∷ t) = ap (λ r. min x r) (least_min m n t) ∙ sym (swap x n (least_with m t))

least_from : (safe at : ℕ) (holds : List ℕ) (i : ℕ) → i < length holds → at ≡ get_or holds i at
    → least_with (min safe (at - 1)) (map (λ h. h - 1) (drop (suc i) holds)) ≡ least_with safe (map (λ h. h - 1) (drop i holds))
least_from safe at [] i less is = absurd (omega arith)
least_from safe at (x ∷ t) zero less is =
    least_min safe (at - 1) (map (λ h. h - 1) t) ∙ ap (λ h. min (h - 1) (least_with safe (map (λ h. h - 1) t))) is
least_from safe at (x ∷ t) (suc i) less is = least_from safe at t i (omega arith) is

-- what is left to look at, once the next one was
pub least_next : (safe at : ℕ) (holds : List ℕ) (i : ℕ) → i < length holds → at ≡ get_or holds i at
    → least_with (min safe (at - 1)) (map (λ h. h - 1) (drop (i + 1) holds)) ≡ least_with safe (map (λ h. h - 1) (drop i holds))
least_next safe at holds i less is = rw add-one (least_from safe at holds i less is)
