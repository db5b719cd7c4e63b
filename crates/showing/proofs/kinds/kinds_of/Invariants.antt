-- The records that were read are counted.
use Rattle.std.proofs.Common.{◌≡◌, take}
use Rattle.recovery.specs.Recovered.{items}
use Rattle.showing.specs.Counting.{kinds_of}
use Rattle.showing.proofs.kinds.kinds_of.Given as goal

abbrev pub invariant-loop-entry : goal.invariant-loop-entry
invariant-loop-entry l = l.kinds ≡ kinds_of (items (take l.entry-index l.entries))
