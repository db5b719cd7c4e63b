use Rattle.std.proofs.Common.{◌≡◌, ◌++◌, map, drop}
use Rattle.session.specs.Shown.{give_up_to}
use Rattle.session.proofs.closing.give_ups.Given as goal

abbrev pub invariant-loop-shard : goal.invariant-loop-shard
invariant-loop-shard l = l.envelopes.items ++ map (give_up_to l.txn) (drop l.shard-index l.shards) ≡ map (give_up_to l.txn) l.shards
