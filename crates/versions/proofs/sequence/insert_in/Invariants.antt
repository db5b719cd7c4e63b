use Rattle.std.proofs.Common.{◌≡◌, ◌≤◌, length}
use Rattle.versions.specs.Pieces.{raised}
use Rattle.versions.proofs.sequence.insert_in.Given as goal

abbrev pub invariant-loop-later : goal.invariant-loop-later
invariant-loop-later l = record {
  from : l.number ≤ l.later;
  within : l.later ≤ length l.fn.ends;
  ends : l.ends ≡ raised l.number l.later l.fn.ends;
}
