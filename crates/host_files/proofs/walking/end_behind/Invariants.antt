use Rattle.std.proofs.Common.{◌-◌}
use Rattle.host_files.proofs.walking.end_behind.Given as goal

abbrev pub decreases-loop-at : goal.decreases-loop-at
decreases-loop-at l = l.len - l.at
