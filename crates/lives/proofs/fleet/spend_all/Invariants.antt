use Rattle.std.proofs.Common.{◌≡◌, ◌+◌, vec_len}
use Rattle.lives.proofs.fleet.spend_all.Given as goal

abbrev pub invariant-loop : goal.invariant-loop
invariant-loop l = vec_len l.shards + l.counter ≡ l.end
