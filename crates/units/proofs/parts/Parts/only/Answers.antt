use Rattle.std.proofs.Common.{◌≡◌, ℕ, [], ◌∷◌, ◌*◌, ◌%◌, ◌^◌, ap, ◌∙◌, ◌<◌}
use Rattle.std.proofs.Math.Nat.{one-mul, mod-eq_of_lt}
use Rattle.std.proofs.Math.Pow.{pow-lt}
use Rattle.units.specs.Masks.{shards_of_mask}
use Rattle.units.specs.Parts.{shards_of-bit}
use Rattle.units.proofs.parts.Parts.only.Goals as goal

-- a bit of 16 is not cut off
bit-kept : (k : ℕ) → k < 16 → (1 * 2 ^ k) % 65536 ≡ 2 ^ k
bit-kept k h = ap (λ n. n % 65536) (one-mul (2 ^ k)) ∙ mod-eq_of_lt (pow-lt h)

pub returns : goal.returns
returns c =
    let k = c.number-number.result in
    ap shards_of_mask (bit-kept k c.number-number.ensures.limit) ∙ shards_of-bit k c.number-number.ensures.limit
    ∙ ap (λ (n : ℕ). n ∷ []) c.number-number.ensures.same
