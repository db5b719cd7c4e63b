use Rattle.std.proofs.Common.{◌≡◌, ◌++◌, drop}
use Rattle.units.specs.Lists.{gather}
use Rattle.inspector.specs.Acks.{as_ack}
use Rattle.inspector.proofs.acks.acks_of.Given as goal

abbrev pub invariant-loop-line : goal.invariant-loop-line
invariant-loop-line l = l.acks.items ++ gather as_ack (drop l.line-index l.lines) ≡ gather as_ack l.lines
