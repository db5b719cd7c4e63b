use Rattle.std.proofs.Common.{◌≡◌, ◌++◌, drop, map}
use Rattle.record.specs.declared.record.Record.TheVariants.{Version}
use Rattle.versions.specs.Arranged.{arranged}
use Rattle.versions.proofs.Passed.{left_of}
use Rattle.ledger.proofs.renewing.hand_versions.Given as goal

abbrev pub invariant-loop-at : goal.invariant-loop-at
invariant-loop-at g l =
    g.R.Recorder.records l.recorder
    ++ map Version (left_of l.facts.facts.horizon (drop l.at (arranged l.facts.facts.installs l.order)))
    ≡ g.R.Recorder.records l.fn.recorder ++ map Version (left_of l.facts.facts.horizon (arranged l.facts.facts.installs l.order))
