-- The writes of the key among those that were read are told.
use Rattle.std.proofs.Common.{◌≡◌, ◌++◌, Some, take}
use Rattle.showing.specs.Histories.{told_as}
use Rattle.showing.proofs.told.tell_standing.Given as goal

abbrev pub invariant-loop-write : goal.invariant-loop-write
invariant-loop-write l = l.told.items ≡ l.initial.told.items ++ told_as l.key l.txn (take l.write-index l.write-items) (Some l.standing)
