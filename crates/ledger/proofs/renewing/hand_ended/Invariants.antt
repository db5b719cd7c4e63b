use Rattle.std.proofs.Common.{◌≡◌, ◌++◌, drop}
use Rattle.units.specs.Lists.{gather}
use Rattle.ledger.specs.Handed.{standing_of}
use Rattle.ledger.specs.Turned.{ended_item}
use Rattle.ledger.proofs.Renewed.{known_of}
use Rattle.ledger.proofs.renewing.hand_ended.Given as goal

abbrev pub invariant-loop-txn : goal.invariant-loop-txn
invariant-loop-txn g l =
    (g.R.Recorder.records l.recorder ++ gather (λ t. ended_item (known_of l.facts.facts t)) (drop l.txn-index l.ids)
    ≡ g.R.Recorder.records l.fn.recorder ++ gather (λ t. ended_item (known_of l.facts.facts t)) l.ids)
    × (gather (standing_of l.facts.facts) l.rest.items ++ gather (standing_of l.facts.facts) (drop l.txn-index l.ids)
    ≡ gather (standing_of l.facts.facts) l.ids)
