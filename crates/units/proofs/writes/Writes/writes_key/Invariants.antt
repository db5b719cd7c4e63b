use Rattle.std.proofs.Common.{◌≡◌, drop}
use Rattle.units.specs.Keys.{writes_key}
use Rattle.units.proofs.writes.Writes.writes_key.Given as goal

abbrev pub invariant-loop-write : goal.invariant-loop-write
invariant-loop-write l = writes_key (drop l.write-index l.write-items) l.key ≡ writes_key l.write-items l.key
