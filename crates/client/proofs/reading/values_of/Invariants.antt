use Rattle.std.proofs.Common.{◌≡◌, ◌++◌, Some, map, drop}
use Rattle.client.specs.Readings.{seen}
use Rattle.client.proofs.reading.values_of.Given as goal

abbrev pub invariant-loop-key : goal.invariant-loop-key
invariant-loop-key l = map Some l.values.items ++ map (seen l.tx.client) (drop l.key-index l.keys) ≡ map (seen l.tx.client) l.keys
