use Rattle.std.proofs.Common.{◌≡◌, ◌+◌, ◌≤◌, ◌++◌, drop, length, vec_capacity}
use Rattle.versions.specs.Arranged.{arranged}
use Rattle.versions.specs.Gathered.{StandInOrder}
use Rattle.versions.proofs.Passed.{left_of}
use Rattle.versions.proofs.held.held_with_room.Given as goal

abbrev pub invariant-loop-at : goal.invariant-loop-at
invariant-loop-at l = record {
  behind : length l.held.items ≤ l.at;
  order : StandInOrder l.held.items l.order;
  vector : length l.places.places + l.room ≤ vec_capacity l.held;
  room : length l.places.places + l.room ≤ length l.held.items + l.order.room;
  left : l.held.items ++ left_of l.horizon (drop l.at (arranged l.installs l.places.places))
      ≡ left_of l.horizon (arranged l.installs l.places.places);
}
