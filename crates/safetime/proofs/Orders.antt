-- The order of holds does not matter.
use Rattle.std.proofs.Common.{◌≡◌, ℕ, ◌-◌, ◌<◌, nat_eq, min, map, List, [], ◌∷◌, ◌++◌, refl, sym, ap, ◌∙◌, arith}
use Rattle.std.proofs.lemmas.Bool.Decides.{nat_tests}
use Rattle.units.specs.Lists.{count, least_with}
use Rattle.safetime.specs.Safe.{lifted}
use Rattle.safetime.specs.Laws.{SameHolds, OrderDoesNotMatter, HoldAddsOne, LiftTakesOne}

added : (n at : ℕ) (t : List ℕ) → count (nat_eq n) (t ++ at ∷ []) ≡ count (nat_eq n) (at ∷ t)
added n at [] = refl
added n at (x ∷ t) = grind (arith, added n at t)

pub hold_adds_one : HoldAddsOne
hold_adds_one at t = record { each = λ n. added n at t }

taken : (n at : ℕ) (t : List ℕ) → 0 < count (nat_eq at) t → count (nat_eq n) (at ∷ lifted at t) ≡ count (nat_eq n) t
taken n at [] some = absurd (omega arith)
taken n at (x ∷ t) some = grind (arith, nat_tests, taken n at t)

pub lift_takes_one : LiftTakesOne
lift_takes_one at t some = record { each = λ n. taken n at t some }

-- the safe time of holds
abbrev safe : ℕ → List ℕ → ℕ
safe last t = least_with last (map (λ at. at - 1) t)

-- a hold may be looked at first
first : (last at : ℕ) (t : List ℕ) → 0 < count (nat_eq at) t → safe last (at ∷ lifted at t) ≡ safe last t
first last at [] some = absurd (omega arith)
first last at (x ∷ t) some = grind (arith, nat_tests, first last at t)

counted : (at : ℕ) (t : List ℕ) → 0 < count (nat_eq at) (at ∷ t)
counted at t = grind (arith, nat_tests)

without : (n at : ℕ) (a b : List ℕ) → count (nat_eq n) (at ∷ a) ≡ count (nat_eq n) (at ∷ b) → count (nat_eq n) a ≡ count (nat_eq n) b
without n at a b h = grind (arith, nat_tests)

pub order_does_not_matter : OrderDoesNotMatter
order_does_not_matter last [] [] same = refl
order_does_not_matter last [] (y ∷ b) same = absurd (omega (arith, same.each y, counted y b))
order_does_not_matter last (x ∷ a) b same =
    let some : 0 < count (nat_eq x) b = omega (arith, same.each x, counted x a) in
    let rest : SameHolds a (lifted x b) = record { each = λ n. without n x a (lifted x b) (same.each n ∙ sym (taken n x b some)) } in
    ap (λ m. min (x - 1) m) (order_does_not_matter last a (lifted x b) rest) ∙ first last x b some
