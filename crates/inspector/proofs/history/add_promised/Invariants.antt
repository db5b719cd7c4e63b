use Rattle.std.proofs.Common.{◌≡◌, ◌++◌, drop, flat_map}
use Rattle.inspector.specs.Decided.{promised_in}
use Rattle.inspector.proofs.history.add_promised.Given as goal

abbrev pub invariant-loop-entry : goal.invariant-loop-entry
invariant-loop-entry l = l.writes.items ++ flat_map (λ p. p.writes) (promised_in l.shard (drop l.entry-index l.run)) ≡ l.initial.writes.items ++ flat_map
    (λ p. p.writes) (promised_in l.shard l.run)
