use Rattle.std.proofs.Common.{◌≡◌, ◌++◌, drop}
use Rattle.std.specs.Prelude.{nat_eq, filter}
use Rattle.units.specs.Keys.{shard_of}
use Rattle.session.proofs.request.push_writes_of.Given as goal

abbrev pub invariant-loop-write : goal.invariant-loop-write
invariant-loop-write l =
    l.part.items ++ filter (λ w. nat_eq (shard_of l.splits w.key) l.shard) (drop l.write-index l.writes) ≡
    filter (λ w. nat_eq (shard_of l.splits w.key) l.shard) l.writes
