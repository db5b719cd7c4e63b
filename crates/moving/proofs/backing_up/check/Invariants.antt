-- As many logs are known as were taken.
use Rattle.std.proofs.Common.{◌≡◌, ◌++◌, length}
use Rattle.moving.proofs.backing_up.check.Given as goal

abbrev pub invariant-loop-log : goal.invariant-loop-log
invariant-loop-log g l = (l.yielded ++ l.log-iterator.rest.items ≡ l.fn.logs.items) × (length l.all.items ≡ length l.yielded)
