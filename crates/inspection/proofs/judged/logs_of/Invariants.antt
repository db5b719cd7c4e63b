use Rattle.std.proofs.Common.{◌≡◌, ◌++◌, map, length}
use Rattle.disk.specs.File.{surface}
use Rattle.inspection.specs.Judged.{HaveLogs}
use Rattle.inspection.proofs.judged.logs_of.Given as goal

abbrev pub invariant-loop-disk : goal.invariant-loop-disk
invariant-loop-disk g l =
    (g.D.Disk.keeps_model → HaveLogs (λ disk. (surface (g.D.Disk.file disk)).seen) l.read.items (map (λ log. log.items) l.logs.items))
    × (l.yielded ++ l.disk-iterator.rest.items ≡ l.fn.disks.items)
    × (length l.read.items ≡ length l.yielded)
    × (g.D.Disk.keeps_model → map (λ disk. (surface (g.D.Disk.file disk)).seen) l.read.items ≡ map (λ disk. (surface (g.D.Disk.file disk)).seen) l.yielded)
