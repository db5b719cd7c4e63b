use Rattle.std.proofs.Common.{◌≡◌, ◌++◌, drop}
use Rattle.inspector.specs.Acks.{raised_acks}
use Rattle.inspector.proofs.acks.raised.Given as goal

abbrev pub invariant-loop-ack : goal.invariant-loop-ack
invariant-loop-ack l = l.found.items ++ raised_acks l.top (drop l.ack-index l.acks) ≡ raised_acks 0 l.acks
