use Rattle.std.proofs.Common.{◌≡◌, drop}
use Rattle.letters.specs.Letters.{is_unanswered}
use Rattle.letters.proofs.acts.is_unanswered.Given as goal

abbrev pub invariant-loop-envelope : goal.invariant-loop-envelope
invariant-loop-envelope l = is_unanswered l.txn (drop l.envelope-index l.out) ≡ is_unanswered l.txn l.out
