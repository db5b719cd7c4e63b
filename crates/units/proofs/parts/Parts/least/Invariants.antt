use Rattle.std.proofs.Common.{◌≡◌, ℕ, List, ◌+◌, ◌^◌, ◌<◌}
use Rattle.units.specs.Masks.{shards_from}
use Rattle.units.proofs.parts.Parts.least.Given as goal

-- the shards of the bits that are left
abbrev pub Left : List ℕ → ℕ → ℕ → Type 0
Left shards number rest =
    (bits : ℕ) × (bits + number ≡ 16) × (0 < rest) × (rest < 2 ^ bits) × (shards_from bits number rest ≡ shards)

abbrev pub invariant-loop-rest : goal.invariant-loop-rest
invariant-loop-rest l = Left l.fn.self l.number l.rest

abbrev pub decreases-loop-rest : goal.decreases-loop-rest
decreases-loop-rest l = l.rest
