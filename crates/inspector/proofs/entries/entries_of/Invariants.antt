use Rattle.std.proofs.Common.{◌≡◌, ◌++◌, drop, flat_map, map}
use Rattle.units.specs.Lists.{gather, numbered}
use Rattle.inspector.specs.Entries.{about_in, entries}
use Rattle.inspector.proofs.entries.entries_of.Given as goal

abbrev pub invariant-loop-shard : goal.invariant-loop-shard
invariant-loop-shard l =
    l.found.items ++ flat_map (λ q. gather (about_in q.0) q.1) (numbered l.shard (map (λ log. log.items) (drop l.shard l.logs)))
    ≡ entries (map (λ log. log.items) l.logs)
