use Rattle.std.proofs.Common.{◌≡◌, ◌++◌, map, take}
use Rattle.lives.proofs.run_shard.copy_records.Given as goal

abbrev pub invariant-loop-entry : goal.invariant-loop-entry
invariant-loop-entry l = l.records.items ≡ l.initial.records.items ++ map (λ e. e.item) (take l.entry-index l.entries)
