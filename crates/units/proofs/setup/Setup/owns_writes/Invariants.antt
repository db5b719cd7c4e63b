use Rattle.std.specs.List.{list_all}
use Rattle.std.proofs.Common.{◌≡◌, nat_eq, drop}
use Rattle.units.specs.Keys.{shard_of}
use Rattle.units.proofs.setup.Setup.owns_writes.Given as goal

abbrev pub invariant-loop-write : goal.invariant-loop-write
invariant-loop-write l =
    list_all (λ w. nat_eq (shard_of l.self.splits w.key) l.self.shard) l.write-items
    ≡ list_all (λ w. nat_eq (shard_of l.self.splits w.key) l.self.shard) (drop l.write-index l.write-items)
