-- The offsets of the entries that were read.
use Rattle.std.proofs.Common.{◌≡◌, map, take}
use Rattle.showing.proofs.lines.told.Given as goal

abbrev pub invariant-loop-entry : goal.invariant-loop-entry
invariant-loop-entry l = map (λ t. t.0) l.told.items ≡ map (λ e. e.offset) (take l.entry-index l.entries)
