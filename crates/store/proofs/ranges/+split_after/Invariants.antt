use Rattle.std.proofs.Common.{length}
use Rattle.store.proofs.ranges.+split_after.Given as goal

abbrev pub decreases-split_after : goal.decreases-split_after
decreases-split_after l = length l.splits.now
