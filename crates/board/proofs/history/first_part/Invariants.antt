use Rattle.units.specs.Versions.{at_time}
use Rattle.board.specs.Histories.{IsHistory}
use Rattle.board.proofs.history.first_part.Given as goal

-- a history at each step
abbrev pub invariant-loop-version : goal.invariant-loop-version
invariant-loop-version l = IsHistory (at_time l.versions.installs l.key) l.key l.fn.from l.to l.history.versions.items l.history.next
