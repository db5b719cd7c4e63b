use Rattle.std.proofs.Common.{◌≡◌, ◌≤◌, ◌++◌, take, drop}
use Rattle.versions.proofs.TakenIn.{gap}
use Rattle.versions.proofs.sequence.Sequence.shift.Given as goal

abbrev pub invariant-loop-at : goal.invariant-loop-at
invariant-loop-at l = record {
  behind : l.from ≤ l.at;
  within : l.at ≤ l.to;
  spots : l.self.spots ≡ take l.at (gap l.from l.fn.self.spots) ++ drop l.at l.fn.self.spots;
  room : l.self.room ≡ l.fn.self.room;
}
