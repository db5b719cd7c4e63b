use Rattle.std.specs.List.{list_all}
use Rattle.std.proofs.Common.{◌≡◌, nat_eq, drop}
use Rattle.units.specs.Keys.{shard_of}
use Rattle.recovery.proofs.belonging.owns_keys.Given as goal

abbrev pub invariant-loop-key : goal.invariant-loop-key
invariant-loop-key l =
    list_all (λ k. nat_eq (shard_of l.setup.splits k) l.setup.shard) l.key-items
    ≡ list_all (λ k. nat_eq (shard_of l.setup.splits k) l.setup.shard) (drop l.key-index l.key-items)
