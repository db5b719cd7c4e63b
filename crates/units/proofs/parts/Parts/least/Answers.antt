use Rattle.std.proofs.Common.{◌≡◌, ℕ, zero, suc, ◌+◌, ◌*◌, ◌/◌, ◌%◌, ◌^◌, ◌<◌, nat_eq, cond, List, ◌∷◌, Some, sym, ap, ◌∙◌, subst, arith, add-one, refl}
use Rattle.std.proofs.Math.Nat.{pow-suc}
use Rattle.units.specs.Lists.{head}
use Rattle.units.specs.Masks.{shards_from}
use Rattle.units.proofs.parts.Parts.least.Invariants.{Left}
use Rattle.units.proofs.parts.Parts.least.Goals as goal

half_below : (k power : ℕ) → k < power * 2 → k / 2 < power
half_below k power less = omega (arith, less)

next : (bits : ℕ) (shards : List ℕ) (number rest : ℕ) → bits + number ≡ 16 → 0 < rest → rest < 2 ^ bits → shards_from bits number rest ≡ shards
    → rest % 2 ≡ 0 → Left shards (number + 1) (rest / 2)
next zero shards number rest sum some less is even = absurd (omega (arith, less, some))
next (suc bits) shards number rest sum some less is even = (
  bits,
  omega (arith, sum),
  omega (arith, some, even),
  half_below rest (2 ^ bits) (subst (λ p. rest < p) (pow-suc 2 bits) less),
  ap (λ n. shards_from bits n (rest / 2)) (add-one number)
      ∙ sym (ap (λ b. cond (nat_eq b 1) (number ∷ shards_from bits (suc number) (rest / 2)) (shards_from bits (suc number) (rest / 2))) even)
      ∙ is,
)

found : (bits : ℕ) (shards : List ℕ) (number rest : ℕ) → 0 < rest → rest < 2 ^ bits → shards_from bits number rest ≡ shards
    → rest % 2 ≡ 1 → head shards ≡ Some number
found zero shards number rest some less is odd = absurd (omega (arith, less, some))
found (suc bits) shards number rest some less is odd =
    ap head (sym is) ∙ ap (λ b. head (cond (nat_eq b 1) (number ∷ shards_from bits (suc number) (rest / 2)) (shards_from bits (suc number) (rest / 2)))) odd

places : (bits number rest : ℕ) → bits + number ≡ 16 → 0 < rest → rest < 2 ^ bits → number < 16
places zero number rest sum some less = absurd (omega (arith, less, some))
places (suc bits) number rest sum some less = omega (arith, sum)

pub loop-rest-init : goal.loop-rest-init
loop-rest-init c = (16, refl, c.self.invariant.0, c.self.invariant.1, c.self.view_is)

pub loop-rest-preserved : goal.loop-rest-preserved
loop-rest-preserved c =
    let i = c.loop-rest.invariant in
    next i.0 c.args.self c.loop-rest.number c.loop-rest.rest i.1 i.2 i.3 i.4 c.loop-rest-test.true

pub of_count-requires : goal.of_count-requires
of_count-requires c =
    let i = c.loop-rest.invariant in
    places i.0 c.loop-rest.number c.loop-rest.rest i.1 i.2 i.3

pub returns : goal.returns
returns c =
    let i = c.loop-rest.invariant in
    found i.0 c.args.self c.loop-rest.number c.loop-rest.rest i.2 i.3 i.4 (omega (arith, c.loop-rest-test.false))
    ∙ ap (λ n. Some n) (sym c.of_count.ensures)
