-- A log for each shard so far.
use Rattle.std.proofs.Common.{◌≡◌, length}
use Rattle.moving.proofs.backing_up.logs_of.Given as goal

abbrev pub invariant-loop-shard : goal.invariant-loop-shard
invariant-loop-shard g l = length l.logs.items ≡ l.shard
