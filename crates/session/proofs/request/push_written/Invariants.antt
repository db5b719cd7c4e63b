use Rattle.std.proofs.Common.{◌≡◌, ◌++◌, map, drop}
use Rattle.units.specs.Keys.{shard_of}
use Rattle.session.proofs.request.push_written.Given as goal

abbrev pub invariant-loop-write : goal.invariant-loop-write
invariant-loop-write l =
    l.shards.items ++ map (λ w. shard_of l.splits w.key) (drop l.write-index l.writes) ≡ l.fn.shards.items ++ map (λ w. shard_of l.splits w.key) l.writes
