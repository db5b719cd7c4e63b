use Rattle.std.proofs.Common.{refl}
use Rattle.shard.specs.Gathered.{seen_ahead}
use Rattle.node.proofs.Grouped.{with_none, with_one}
use Rattle.node.proofs.group.take_due.Goals as goal

pub loop-due-init : goal.loop-due-init
loop-due-init g c from arrivals h =
    with_none g.D.Disk.file g.D.Disk.clock g.D.Disk.since g.D.Disk.failures from (seen_ahead c.args.ahead.now) c.args.now.now arrivals h

pub loop-due-preserved : goal.loop-due-preserved
loop-due-preserved g c from arrivals h =
    with_one g.D.Disk.file g.D.Disk.clock g.D.Disk.since g.D.Disk.failures from (seen_ahead c.loop-due.ahead)
    (seen_ahead c.take_one-refused.new.ahead) c.args.now.now arrivals c.in-Some.input c.take_one-refused.result (refl, c.in-Some.ensures)
    (c.take_one-refused.ensures.ahead from) (c.loop-due.invariant from arrivals h)
