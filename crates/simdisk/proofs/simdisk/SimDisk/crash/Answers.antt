use Rattle.disk.proofs.Crashes.{crashed_may}
use Rattle.simdisk.specs.State.{disk_file}
use Rattle.simdisk.proofs.simdisk.SimDisk.crash.Goals as goal

pub returns-clause-may : goal.returns-clause-may
returns-clause-may c = crashed_may c.args.choice.now (disk_file c.args.self)
