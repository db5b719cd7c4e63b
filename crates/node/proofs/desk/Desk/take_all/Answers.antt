use Rattle.std.proofs.Common.{◌++◌, ◌∙◌, refl, sym}
use Rattle.shard.specs.Core.{seen}
use Rattle.node.proofs.Grouped.{copied_none, group_in_step}
use Rattle.node.proofs.desk.Desk.take_all.Goals as goal

pub invariant_of-desk : goal.invariant_of-desk
invariant_of-desk g c =
    let self = c.args.self in
    let h = c.in-Ok-take_group.ensures.taken (seen self.core) c.in-Ok-gather.ensures.begun in
    record {
      in_step = group_in_step g.D.Disk.keeps_model g.D.Disk.file g.D.Disk.clock g.D.Disk.since g.D.Disk.failures (seen self.core)
          (seen c.in-Ok-take_group.core) _ _ h.stepped c.is_sound.ensures.showable self.handed
          (self.publisher.published ++ self.publisher.pending) self.in_step;
      horizon = self.horizon;
    }

pub returns-in-Ok-take_group-clause-taken : goal.returns-in-Ok-take_group-clause-taken
returns-in-Ok-take_group-clause-taken g c = record {
  core = c.in-Ok-take_group.ensures.taken (seen c.args.self.core) c.in-Ok-gather.ensures.begun;
  before = sym c.book.ensures.same ∙ copied_none c.book.result (sym c.if-is_some.ensures);
  after = c.in-Ok-take_group.ensures.book;
  board = refl;
  measure = refl;
}

pub returns-in-Err-take_group-clause-failed : goal.returns-in-Err-take_group-clause-failed
returns-in-Err-take_group-clause-failed g c = record {
  core = c.in-Err-take_group.ensures.failed (seen c.args.self.core) c.in-Ok-gather.ensures.begun;
  board = refl;
}
