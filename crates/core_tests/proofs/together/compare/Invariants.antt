use Rattle.std.proofs.Common.{◌≡◌, ◌+◌, vec_len}
use Rattle.core_tests.proofs.together.compare.Given as goal

abbrev pub invariant-loop : goal.invariant-loop
invariant-loop g l = vec_len l.opened + l.counter ≡ l.end
