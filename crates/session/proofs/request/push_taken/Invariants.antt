use Rattle.std.proofs.Common.{◌≡◌, ◌++◌, map, drop}
use Rattle.session.proofs.request.push_taken.Given as goal

abbrev pub invariant-loop-answered : goal.invariant-loop-answered
invariant-loop-answered l = l.shards.items ++ map (λ a. a.shard) (drop l.answered-index l.taken) ≡ l.fn.shards.items ++ map (λ a. a.shard) l.taken
