use Rattle.std.proofs.Common.{◌≡◌, ◌++◌, drop}
use Rattle.units.specs.Lists.{gather}
use Rattle.ledger.specs.Handed.{standing_of}
use Rattle.ledger.proofs.renewing.hand_standing.Given as goal

abbrev pub invariant-loop-txn : goal.invariant-loop-txn
invariant-loop-txn g l =
    g.R.Recorder.records l.recorder ++ gather (standing_of l.facts.facts) (drop l.txn-index l.ids)
    ≡ g.R.Recorder.records l.fn.recorder ++ gather (standing_of l.facts.facts) l.ids
