use Rattle.std.specs.List.{list_all}
use Rattle.std.proofs.Common.{◌≡◌, ◌||◌, nat_lt, drop}
use Rattle.units.specs.Lists.{has}
use Rattle.units.proofs.parts.is_among.Given as goal

abbrev pub invariant-loop-shard : goal.invariant-loop-shard
invariant-loop-shard l = record {
  among : has l.shards l.n ≡ (l.found || has (drop l.shard-index l.shards) l.n);
  small : list_all (λ k. nat_lt k 16) l.shards ≡ list_all (λ k. nat_lt k 16) (drop l.shard-index l.shards);
}
