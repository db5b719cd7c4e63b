use Rattle.std.proofs.Common.{◌≡◌, ◌≤◌, length, drop}
use Rattle.locks.specs.Ways.{ids_in_way}
use Rattle.locks.proofs.requests.wounded_by_name.Given as goal

abbrev pub invariant-loop-left : goal.invariant-loop-left
invariant-loop-left l = record {
  within : l.left ≤ length l.needs;
  ids : l.ids.items ≡ ids_in_way l.txn (drop l.left l.needs) l.claims;
}

abbrev pub decreases-loop-left : goal.decreases-loop-left
decreases-loop-left l = l.left
