use Rattle.std.proofs.Common.{◌+◌, ◌≤◌, length}
use Rattle.versions.specs.Orders.{Orders, AreBehind}
use Rattle.versions.proofs.placed.Places.follow.Given as goal

abbrev pub invariant-loop-at : goal.invariant-loop-at
invariant-loop-at l = record {
  known : Orders l.horizon l.installs l.at l.self;
  behind : AreBehind l.installs l.at;
  within : l.at ≤ length l.installs;
  room : l.fn.known + l.fn.self.room ≤ l.at + l.self.room;
}
