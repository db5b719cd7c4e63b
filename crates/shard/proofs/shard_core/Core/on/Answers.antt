use Rattle.protocol.specs.Step.{plan_input, step_within}
use Rattle.memory.specs.Kept.{start_of}
use Rattle.shard.specs.Core.{seen}
use Rattle.shard.proofs.Booked.{crowded-refused}
use Rattle.shard.proofs.shard_core.Core.on.Goals as goal

pub returns-in-Err-clause-crowded : goal.returns-in-Err-clause-crowded
unfolding step_within
returns-in-Err-clause-crowded g c full =
    let k = c.args.self.now.machine.state in
    crowded-refused g.D.Disk.keeps_model g.D.Disk.obeys g.D.Disk.file g.D.Disk.clock g.D.Disk.since g.D.Disk.failures g.D.Disk.plan
    (seen c.args.self.now) k.memory (plan_input k.setup (start_of k) c.args.now.now c.args.input.now) c.in-Err.fault c.first_refusal.result
    (c.own_refusals.ensures k.setup (start_of k) c.args.now.now c.args.input.now) c.in-Err.ensures.refused (c.first_refusal.ensures.full full)
