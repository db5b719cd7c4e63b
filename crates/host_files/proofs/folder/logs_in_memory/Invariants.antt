use Rattle.std.proofs.Common.{◌≡◌, [], Ok, length}
use Rattle.std.specs.Prelude.{All}
use Rattle.disk.specs.File.{surface}
use Rattle.disk.specs.declared.plan.FailurePlan.TheVariants.{Never}
use Rattle.gatelog.specs.Crash.{Stands}
use Rattle.gatelog.specs.Log.{log}
use Rattle.simdisk.specs.State.{disk_file, disk_plan}
use Rattle.host_files.proofs.folder.logs_in_memory.Given as goal

abbrev pub invariant-loop : goal.invariant-loop
invariant-loop l = record {
  count : length l.logs.items ≡ l.counter;
  empty : All (λ disk. Stands (surface (disk_file disk)) (Ok [])) l.logs.items;
  read : All (λ disk. log (surface (disk_file disk)).seen ≡ Ok []) l.logs.items;
  planned : All (λ disk. disk_plan disk ≡ Never) l.logs.items;
}
