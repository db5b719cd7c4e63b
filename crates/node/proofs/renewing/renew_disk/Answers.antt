use Rattle.std.proofs.Common.{sym, subst}
use Rattle.disk.specs.File.{surface}
use Rattle.disk.specs.Moments.{LeavesOnly}
use Rattle.shard.specs.Core.{seen}
use Rattle.shard.specs.Moved.{HoldsRenewal}
use Rattle.node.specs.Renewed.{HoldsMore}
use Rattle.node.proofs.Forgot.{former, renewed}
use Rattle.node.proofs.renewing.renew_disk.Goals as goal

pub returns-in-Ok-renew_into-clause-renewed : goal.returns-in-Ok-renew_into-clause-renewed
returns-in-Ok-renew_into-clause-renewed g c keeps =
    let new = (seen c.forget.new.core).facts in
    renewed c.args.past _ _ (seen c.in-Ok.core).facts new (c.in-Ok.ensures.facts keeps) c.in-Ok-forget.ensures.kept
    (subst (λ disk. HoldsRenewal (surface (g.D.Disk.file disk)) new) (sym c.into_disk.ensures) (c.in-Ok-renew_into.ensures.durable keeps))

pub returns-in-Ok-renew_into-clause-former : goal.returns-in-Ok-renew_into-clause-former
returns-in-Ok-renew_into-clause-former g c keeps =
    let before = surface (g.D.Disk.file c.args.disk) in
    subst (λ d. LeavesOnly g.D.Disk.clock g.D.Disk.since c.args.disk d (HoldsMore before)) (sym c.stop-in-Ok-renew_into.ensures)
    (former g.D.Disk.file g.D.Disk.clock g.D.Disk.since c.args.disk (seen c.in-Ok.core) (seen c.forget.new.core) (c.in-Ok.ensures.moment keeps)
    (c.in-Ok.ensures.read keeps) (c.forget.ensures.moment keeps))
