use Rattle.std.proofs.Common.{◌≡◌, ◌-◌, ◌++◌}
use Rattle.units.specs.Masks.{shards_from}
use Rattle.units.proofs.parts.Parts.shards.Given as goal

abbrev pub invariant-loop-number : goal.invariant-loop-number
invariant-loop-number l = l.shards.items ++ shards_from (16 - l.number) l.number l.rest ≡ l.fn.self
