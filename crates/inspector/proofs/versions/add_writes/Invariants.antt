use Rattle.std.proofs.Common.{◌≡◌, ◌++◌, drop}
use Rattle.inspector.specs.Versions.{placed_at}
use Rattle.inspector.proofs.versions.add_writes.Given as goal

abbrev pub invariant-loop-write : goal.invariant-loop-write
invariant-loop-write l = l.found.items ++ placed_at l.place (drop l.write-index l.writes) ≡ l.initial.found.items ++ placed_at l.place l.writes
