use Rattle.std.proofs.Common.{◌≡◌, ◌++◌, map, drop}
use Rattle.units.specs.Keys.{shard_of}
use Rattle.session.proofs.request.push_asked.Given as goal

abbrev pub invariant-loop-key : goal.invariant-loop-key
invariant-loop-key l = l.shards.items ++ map (shard_of l.splits) (drop l.key-index l.keys) ≡ l.fn.shards.items ++ map (shard_of l.splits) l.keys
