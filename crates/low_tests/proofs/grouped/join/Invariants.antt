use Rattle.std.proofs.Common.{◌≡◌}
use Rattle.gatelog.specs.Shown.{gate_at}
use Rattle.low_tests.proofs.grouped.join.Given as goal

-- the group stands behind the log's closed gate
abbrev pub invariant-loop-line : goal.invariant-loop-line
invariant-loop-line l = l.group.gate ≡ gate_at l.log
