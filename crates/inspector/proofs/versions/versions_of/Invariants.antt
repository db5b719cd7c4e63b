use Rattle.std.proofs.Common.{◌≡◌, ◌++◌, drop}
use Rattle.inspector.specs.Versions.{placed_from}
use Rattle.inspector.proofs.versions.versions_of.Given as goal

abbrev pub invariant-loop-place : goal.invariant-loop-place
invariant-loop-place l = l.found.items ++ placed_from l.place (drop l.place l.ordered) ≡ placed_from 0 l.ordered
