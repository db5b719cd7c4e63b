use Rattle.std.proofs.Common.{length}
use Rattle.workers.proofs.reads.+write_each.Given as goal

abbrev pub decreases-write_each : goal.decreases-write_each
decreases-write_each l = length l.asked.now
