use Rattle.std.specs.List.{list_all}
use Rattle.std.proofs.Common.{◌≡◌, ◌-◌, false}
use Rattle.record.specs.Whole.{outcomes_fit}
use Rattle.inspector.specs.Entries.{logs_from}
use Rattle.inspector.proofs.whole.never_ends.Given as goal

abbrev pub invariant-loop-number : goal.invariant-loop-number
invariant-loop-number l = list_all (λ q. outcomes_fit q l.txn (λ s. false)) (logs_from (l.count - l.number) l.number l.entries) ≡ list_all
    (λ q. outcomes_fit q l.txn (λ s. false)) (logs_from l.count 0 l.entries)
