use Rattle.client.specs.Readings.{IsReading}
use Rattle.client.proofs.wire.Wire.await_answers.Given as goal

abbrev pub invariant-loop-heard : goal.invariant-loop-heard
invariant-loop-heard g l = IsReading l.fn.self l.self l.fn.tx l.tx
