use Rattle.std.proofs.Common.{◌≡◌, take}
use Rattle.book.proofs.copies.copy_outbox.Given as goal

abbrev pub invariant-loop-envelope : goal.invariant-loop-envelope
invariant-loop-envelope l = l.envelopes.items ≡ take l.envelope-index l.envelope-items
