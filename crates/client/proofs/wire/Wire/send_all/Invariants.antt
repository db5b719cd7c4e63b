use Rattle.std.proofs.Common.{◌≡◌, ◌++◌}
use Rattle.client.proofs.wire.Wire.send_all.Given as goal

abbrev pub invariant-loop-envelope : goal.invariant-loop-envelope
invariant-loop-envelope g l = record {
  sent : l.self.sent ++ l.envelope-iterator.rest.items ≡ l.fn.self.sent ++ l.fn.outbox;
  heard : l.self.heard ≡ l.fn.self.heard;
}
