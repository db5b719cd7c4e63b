use Rattle.std.proofs.Common.{length, ◌-◌, ◌≤◌}
use Rattle.host_files.proofs.walking.way_in.Given as goal

abbrev pub invariant-loop-at : goal.invariant-loop-at
invariant-loop-at l = l.at ≤ l.left

abbrev pub decreases-loop-at : goal.decreases-loop-at
decreases-loop-at l = length l.bytes - l.at
