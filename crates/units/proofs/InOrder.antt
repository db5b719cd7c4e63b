-- What std's test of an order says: each member is before the next one.
use native.Mathlib.Numerals.{unary_clauses}
use Rattle.std.proofs.Common.{◌≡◌, ◌∙◌, ◌<◌, ◌&&◌, ℕ, zero, suc, Bool, true, false, List, [], ◌∷◌, length, refl, sym, ap, arith}
use Rattle.std.specs.List.{slice_index_or, IsAllAdjacentAnswer}
use Rattle.std.proofs.lemmas.Bool.{and_from}
use Rattle.units.specs.Lists.{ascends}

each : {A : Type 0} (less : A → A → Bool) (xs : List A)
    → ((k : ℕ) (d : A) → suc k < length xs → true ≡ less (slice_index_or xs k d) (slice_index_or xs (suc k) d))
    → ascends less xs ≡ true
each less [] h = refl
each less (x ∷ []) h = refl
each less (x ∷ y ∷ rest) h =
    and_from _ _ (sym (h zero x (omega arith))) (each less (y ∷ rest) (λ k d lt. h (suc k) d (omega (arith, lt))))

some : {A : Type 0} (less : A → A → Bool) (xs : List A) (k : ℕ) → suc k < length xs
    → ((d : A) → false ≡ less (slice_index_or xs k d) (slice_index_or xs (suc k) d))
    → ascends less xs ≡ false
some less [] k lt h = absurd (omega (arith, lt))
some less (x ∷ []) k lt h = absurd (omega (arith, lt))
some less (x ∷ y ∷ rest) zero lt h = ap (λ b. b && ascends less (y ∷ rest)) (sym (h x))
some less (x ∷ y ∷ rest) (suc k) lt h =
    ap (λ b. less x y && b) (some less (y ∷ rest) k (omega (arith, lt)) (λ d. h d)) ∙ never (less x y)
  where
    never : (b : Bool) → (b && false) ≡ false
    never true = refl
    never false = refl

pub ascends_by : {A : Type 0} (less : A → A → Bool) (xs : List A) (r : Bool)
    → IsAllAdjacentAnswer (λ x y b. b ≡ less x y) xs r → r ≡ ascends less xs
ascends_by less xs true h = sym (each less xs (λ k d lt. simp unary_clauses at (h k d (omega (arith, lt)))))
ascends_by less xs false h = sym (some less xs h.0 (omega (arith, h.1)) (λ d. simp unary_clauses at (h.2 d)))
