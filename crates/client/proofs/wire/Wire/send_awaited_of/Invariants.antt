use Rattle.std.proofs.Common.{◌≡◌, ◌++◌, List}
use Rattle.message.specs.declared.message.Envelope.{Envelope}
use Rattle.client.specs.Readings.{AreReads}
use Rattle.client.proofs.wire.Wire.send_awaited_of.Given as goal

abbrev pub invariant-loop-key : goal.invariant-loop-key
invariant-loop-key g l = record {
  sent : (sent : List Envelope) × (l.self.sent ≡ l.fn.self.sent ++ sent) × AreReads l.tx.client.txn sent;
  heard : l.self.heard ≡ l.fn.self.heard;
}
