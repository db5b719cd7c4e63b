use Rattle.std.proofs.Common.{length}
use Rattle.units.proofs.splits.+count_up_to.Given as goal

abbrev pub decreases-count_up_to : goal.decreases-count_up_to
decreases-count_up_to l = length l.splits.now
