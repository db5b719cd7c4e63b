use Rattle.std.proofs.Common.{◌≡◌, map, take}
use Rattle.inspection.proofs.judged.items_of.Given as goal

abbrev pub invariant-loop-entry : goal.invariant-loop-entry
invariant-loop-entry l = l.records.items ≡ map (λ e. e.item) (take l.entry-index l.entries)
