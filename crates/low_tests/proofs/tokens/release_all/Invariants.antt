use Rattle.std.proofs.Common.{◌≡◌, ◌+◌, vec_len}
use Rattle.low_tests.proofs.tokens.release_all.Given as goal

abbrev pub invariant-loop : goal.invariant-loop
invariant-loop l = l.counter + vec_len l.tokens ≡ l.end
