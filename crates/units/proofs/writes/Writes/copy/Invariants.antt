use Rattle.std.proofs.Common.{◌≡◌, ◌≤◌, length, take}
use Rattle.std.specs.Vec.{vec_capacity}
use Rattle.units.proofs.writes.Writes.copy.Given as goal

abbrev pub invariant-loop-write : goal.invariant-loop-write
invariant-loop-write l = record {
  items : l.writes.items ≡ take l.write-index l.write-items;
  room : length l.write-items ≤ vec_capacity l.writes;
}
