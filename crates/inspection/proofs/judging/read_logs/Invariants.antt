use Rattle.std.proofs.Common.{◌≡◌, ◌++◌, [], map}
use Rattle.disk.specs.File.{surface}
use Rattle.inspection.specs.Files.{logs_behind}
use Rattle.inspection.proofs.judging.read_logs.Given as goal

abbrev pub invariant-loop-disk : goal.invariant-loop-disk
invariant-loop-disk g l = record {
  whole : l.yielded ++ l.disk-iterator.rest.items ≡ l.fn.disks.items;
  rest : g.D.Disk.keeps_model → logs_behind [] (map (λ d. (surface (g.D.Disk.file d)).seen) l.fn.disks.items)
      ≡ logs_behind (map (λ log. log.items) l.logs.items) (map (λ d. (surface (g.D.Disk.file d)).seen) l.disk-iterator.rest.items);
}
