use Rattle.std.proofs.Common.{◌≡◌, ◌++◌, drop, flat_map, map}
use Rattle.units.specs.Lists.{numbered}
use Rattle.record.specs.History.{history}
use Rattle.inspector.specs.Decided.{decided_in}
use Rattle.inspector.proofs.history.history_of.Given as goal

abbrev pub invariant-loop-shard : goal.invariant-loop-shard
invariant-loop-shard l = l.found.items ++ flat_map (decided_in l.about) (numbered l.shard (map (λ log. log.items) (drop l.shard l.logs))) ≡ history
    (map (λ log. log.items) l.logs)
