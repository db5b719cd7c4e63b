use Rattle.std.proofs.Common.{◌≡◌, ◌*◌, ◌≤◌}
use Rattle.versions.proofs.sequence.Sequence.reserve.Given as goal

abbrev pub invariant-loop : goal.invariant-loop
invariant-loop l = record {
  spots : l.self.spots ≡ l.fn.self.spots;
  keeps : l.fn.self.room ≤ l.self.room;
  grown : l.counter * 512 ≤ l.self.room;
}
