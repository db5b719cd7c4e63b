use Rattle.std.proofs.Common.{length, ◌-◌}
use Rattle.host_files.proofs.owners.frames_fit.Given as goal

abbrev pub decreases-loop-at : goal.decreases-loop-at
decreases-loop-at l = length l.bytes - l.at
