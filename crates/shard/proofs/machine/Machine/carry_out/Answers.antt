use Rattle.shard.specs.Core.{seen_machine}
use Rattle.shard.proofs.Commits.{staged-through}
use Rattle.shard.proofs.machine.Machine.carry_out.Goals as goal

pub returns-clause-stepped : goal.returns-clause-stepped
returns-clause-stepped g c =
    staged-through g.D.Disk.keeps_model g.D.Disk.obeys g.D.Disk.file g.D.Disk.clock g.D.Disk.since g.D.Disk.failures g.D.Disk.plan g.D.Disk.has_room
    (seen_machine c.args.self.now) (seen_machine c.stage.new.self) (seen_machine c.commit.new.self) c.stage.new.self.state c.args.step c.in-Ok.staged
    c.commit.result c.requires.stands c.in-Ok.ensures.staged c.commit.ensures.stepped
