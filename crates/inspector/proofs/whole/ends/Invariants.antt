use Rattle.std.proofs.Common.{◌≡◌, drop, false}
use Rattle.record.specs.Whole.{outcomes_fit}
use Rattle.inspector.specs.Entries.{log_numbered}
use Rattle.inspector.proofs.whole.ends.Given as goal

abbrev pub invariant-loop-entry : goal.invariant-loop-entry
invariant-loop-entry l =
    outcomes_fit (log_numbered l.number (drop l.entry-index l.entries)) l.txn (λ s. false) ≡
    outcomes_fit (log_numbered l.number l.entries) l.txn (λ s. false)
