use Rattle.std.proofs.Common.{List, Result, ap, subst}
use Rattle.units.specs.declared.fault.Fault.{Fault}
use Rattle.record.specs.declared.record.Record.{Record}
use Rattle.gatelog.specs.Shown.{disk_of}
use Rattle.compaction.specs.Compacted.{Holds, WasFilled, items_of}
use Rattle.compaction.proofs.over_files.compact_file.Goals as goal

pub returns-in-Ok-compact-clause-compacted : goal.returns-in-Ok-compact-clause-compacted
returns-in-Ok-compact-clause-compacted g c =
    let disk = disk_of c.in-Ok-compact.field-0.1 in
    record {
      from = c.in_ok-open.field-0;
      opened = c.in_ok-open.ensures.named;
      to = c.in-Ok-create.to;
      made = c.in-Ok-create.ensures.named;
      disk = disk;
      filled = λ keeps.
          subst (λ (rs : Result (List Record) Fault). WasFilled g.F.Log.Disk.file g.F.Log.Disk.clock g.F.Log.Disk.since rs c.in-Ok-create.to disk)
          (ap items_of (c.in-Ok.ensures.log keeps)) (c.in-Ok-compact.ensures.any_moment keeps keeps);
      holds = λ keeps.
          subst (λ (rs : Result (List Record) Fault). Holds rs (g.F.Log.Disk.file disk))
          (ap items_of (c.in-Ok.ensures.log keeps)) (c.in-Ok-compact.ensures.durable keeps keeps);
    }
