use Rattle.gatelog.specs.Shown.{disk_of}
use Rattle.compaction.proofs.Filled.{since-laid}
use Rattle.compaction.proofs.compacting.compact.Goals as goal

pub returns-in-Ok-fill-clause-any_moment : goal.returns-in-Ok-fill-clause-any_moment
returns-in-Ok-fill-clause-any_moment g c keeps target =
    since-laid g.E.Disk.file g.E.Disk.clock g.E.Disk.since _ _ c.args.to (disk_of c.in-Ok.made) (disk_of c.fill.new.log)
    (c.into_parts-from.ensures.records keeps) (c.in-Ok.ensures.laid target) (c.fill.ensures.any_moment target)

pub returns-in-Err-fill-clause-refused_moment : goal.returns-in-Err-fill-clause-refused_moment
returns-in-Err-fill-clause-refused_moment g c keeps target =
    since-laid g.E.Disk.file g.E.Disk.clock g.E.Disk.since _ _ c.args.to (disk_of c.in-Ok.made) (disk_of c.fill.new.log)
    (c.into_parts-from.ensures.records keeps) (c.in-Ok.ensures.laid target) (c.fill.ensures.any_moment target)
