use Rattle.client.specs.Readings.{IsReading}
use Rattle.client.proofs.wire.Wire.fetch.Given as goal

abbrev pub invariant-loop-key : goal.invariant-loop-key
invariant-loop-key g l = IsReading l.fn.self l.fn.self l.fn.tx l.tx
