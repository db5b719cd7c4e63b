use Rattle.std.proofs.Common.{◌≡◌, ◌+◌, vec_len}
use Rattle.world.proofs.hosting.Sessions.spend.Given as goal

abbrev pub invariant-loop : goal.invariant-loop
invariant-loop l = vec_len l.begun + l.counter ≡ l.end
