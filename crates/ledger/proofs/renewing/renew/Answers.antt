use Rattle.ledger.proofs.Renewed.{handed_all}
use Rattle.ledger.proofs.renewing.renew.Goals as goal

pub returns-clause-all : goal.returns-clause-all
returns-clause-all g c =
    handed_all c.hand_standing.result c.args.facts.now.facts (g.R.Recorder.records c.args.recorder.now) (g.R.Recorder.records c.hand_base.new.recorder)
    (g.R.Recorder.records c.hand_versions.new.recorder) (g.R.Recorder.records c.hand_retired.new.recorder) (g.R.Recorder.records c.hand_ended.new.recorder) (g.R.Recorder.records c.hand_standing.new.recorder)
    c.in_ok-hand_base.ensures.added c.in_ok-hand_versions.ensures.added c.in_ok-hand_retired.ensures.added c.in_ok-rest.ensures.added c.hand_standing.ensures.added
