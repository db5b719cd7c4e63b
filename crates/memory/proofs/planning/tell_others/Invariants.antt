use Rattle.std.proofs.Common.{◌≡◌, ◌++◌, drop, map}
use Rattle.protocol.specs.Cells.{other_parts}
use Rattle.protocol.specs.Outputs.{outcome_to}
use Rattle.memory.proofs.planning.tell_others.Given as goal

abbrev pub invariant-loop-shard : goal.invariant-loop-shard
invariant-loop-shard l =
    l.out.items ++ map (outcome_to l.told.from l.told.txn l.told.outcome) (other_parts l.told.from (drop l.shard-index l.shard-items))
    ≡ l.fn.out.items ++ map (outcome_to l.told.from l.told.txn l.told.outcome) (other_parts l.told.from l.shard-items)
