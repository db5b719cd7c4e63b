use Rattle.std.proofs.Common.{subst}
use Rattle.disk.specs.File.{File, surface}
use Rattle.gatelog.specs.First.{HasCopied}
use Rattle.gatelog.specs.Shown.{disk_of, gate_at}
use Rattle.system.proofs.reading.migrate_file.Goals as goal

pub returns-in-Ok-clause-migrated : goal.returns-in-Ok-clause-migrated
returns-in-Ok-clause-migrated g c = record {
  from = c.in_ok-first.first;
  opened = c.in_ok-first.ensures.named;
  to = c.in_ok-second.second;
  made = c.in_ok-second.ensures.named;
  disk = disk_of c.in-Ok.field-0;
  copied = λ keeps.
      let copied = c.in-Ok.ensures.copied keeps in (
        gate_at c.in-Ok.field-0,
        copied.0,
        subst (λ (f : File). HasCopied g.F.Log.Disk.file g.F.Log.Disk.clock g.F.Log.Disk.since (surface f).seen c.in_ok-second.second
            (disk_of c.in-Ok.field-0) (gate_at c.in-Ok.field-0) copied.0) c.is_old.ensures.same copied.1,
      );
}
