use Rattle.client.proofs.Closings.{Awaits}
use Rattle.client.proofs.wire.Wire.await_end.Given as goal

abbrev pub invariant-loop-heard : goal.invariant-loop-heard
invariant-loop-heard g l = Awaits l.tx.splits l.tx.client l.fn.self l.self
