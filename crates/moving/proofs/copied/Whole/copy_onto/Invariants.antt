-- The disks hold copies of the logs that were taken.
use Rattle.std.proofs.Common.{◌≡◌, ◌++◌, map, length}
use Rattle.disk.specs.File.{surface}
use Rattle.moving.specs.Copies.{AreCopies}
use Rattle.moving.proofs.copied.Whole.copy_onto.Given as goal

abbrev pub invariant-loop-log : goal.invariant-loop-log
invariant-loop-log g l =
    (l.yielded ++ l.log-iterator.rest.items ≡ l.fn.self.logs.items)
    × (length l.copies.items ≡ length l.yielded)
    × (g.D.Disk.keeps_model → g.E.Disk.keeps_model
    → AreCopies g.E.Disk.file (map (λ log. (surface (g.D.Disk.file log)).seen) l.yielded) l.copies.items)
