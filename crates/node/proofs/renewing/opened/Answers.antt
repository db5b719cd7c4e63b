use Rattle.disk.specs.File.{surface}
use Rattle.disk.proofs.Runs.{weaker}
use Rattle.shard.specs.Core.{seen}
use Rattle.shard.specs.Opened.{LeavesOpening}
use Rattle.node.specs.Renewed.{HoldsMore}
use Rattle.node.proofs.Forgot.{opened_more, opened_on, taken_up}
use Rattle.node.proofs.renewing.opened.Goals as goal

pub returns-in-Ok-clause-facts : goal.returns-in-Ok-clause-facts
returns-in-Ok-clause-facts g c keeps = taken_up _ _ _ (c.in-Ok.ensures.opened.taken keeps)

pub returns-in-Ok-clause-moment : goal.returns-in-Ok-clause-moment
returns-in-Ok-clause-moment g c keeps =
    let before = surface (g.D.Disk.file c.args.disk) in
    let core = seen c.in-Ok.core in
    weaker g.D.Disk.clock g.D.Disk.since c.args.disk core.disk (LeavesOpening before) (HoldsMore before) (c.in-Ok.ensures.opened.any_moment keeps)
    (opened_more before core.facts (taken_up _ _ _ (c.in-Ok.ensures.opened.taken keeps)))

pub returns-in-Ok-clause-read : goal.returns-in-Ok-clause-read
returns-in-Ok-clause-read g c keeps =
    opened_on _ _ _ (taken_up _ _ _ (c.in-Ok.ensures.opened.taken keeps)) (c.in-Ok.ensures.opened.read keeps)
