use Rattle.std.proofs.Common.{◌≡◌, ◌+◌, ◌≤◌, length, take}
use Rattle.versions.specs.Arranged.{arranged}
use Rattle.versions.proofs.store.Versions.in_order.Given as goal

-- the first so many are there, and there is room for the others
abbrev pub invariant-loop-at : goal.invariant-loop-at
invariant-loop-at l = record {
  copied : l.versions.installs ≡ take l.at (arranged l.installs l.places.places);
  room : length l.places.places ≤ l.at + l.versions.room;
}
