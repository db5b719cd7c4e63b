use Rattle.std.proofs.Common.{◌++◌}
use Rattle.shard.specs.Core.{seen, book_of}
use Rattle.shard.specs.On.{step_of}
use Rattle.shard.proofs.Booked.{room-or-full, went}
use Rattle.node.proofs.DeskFaults.{taken_or_refused}
use Rattle.node.proofs.Kept.{kept_in_step}
use Rattle.node.proofs.desk.Desk.deliver.Goals as goal

pub invariant_of-self : goal.invariant_of-self
invariant_of-self g c =
    let old = seen c.args.self.now.core in
    let new = seen c.on.new.self in
    let self = c.args.self.now in
    let stood = went g.D.Disk.keeps_model g.D.Disk.obeys g.D.Disk.file g.D.Disk.clock g.D.Disk.since g.D.Disk.failures g.D.Disk.plan old new
    (step_of old c.args.now.now c.args.input.now) _ _ (room-or-full old.setup.book (book_of self.core)) c.on.result c.on.ensures.stepped c.on.ensures.crowded in
    record {
      in_step = kept_in_step g.D.Disk.file old new c.args.now.now c.args.input.now c.step_keeps_showable.ensures c.writes_ascend.ensures.limit
          c.writes_ascend.ensures.order c.is_sound.ensures.sound c.is_sound.ensures.showable c.on.result self.handed
          (self.publisher.published ++ self.publisher.pending) stood.0 stood.1 self.in_step;
      horizon = self.horizon;
    }

pub returns-clause-faults : goal.returns-clause-faults
returns-clause-faults g c =
    let self = c.args.self.now in
    taken_or_refused g.D.Disk.keeps_model g.D.Disk.obeys g.D.Disk.file g.D.Disk.clock g.D.Disk.since g.D.Disk.failures g.D.Disk.plan
    (seen self.core) (seen c.on.new.self) (book_of self.core) (book_of c.on.new.self) c.args.now.now c.on.result c.args.input.now c.own_refusals.ensures
    (record { stepped = c.on.ensures.stepped; crowded = c.on.ensures.crowded; entered = c.on.ensures.entered })
