use Rattle.std.proofs.Common.{◌≡◌, drop}
use Rattle.units.specs.Keys.{writes_key}
use Rattle.session.proofs.lists.is_written.Given as goal

abbrev pub invariant-loop-write : goal.invariant-loop-write
invariant-loop-write l = writes_key (drop l.write-index l.writes) l.key ≡ writes_key l.writes l.key
