-- The records that were read are no decisions.
use Rattle.std.proofs.Common.{◌≡◌, drop}
use Rattle.units.specs.Lists.{gather}
use Rattle.recovery.specs.Recovered.{items}
use Rattle.showing.specs.Stats.{decided_by, parts_in}
use Rattle.showing.proofs.following.shard_told.Given as goal

abbrev pub invariant-loop-entry : goal.invariant-loop-entry
invariant-loop-entry l =
    gather (λ r. decided_by (parts_in r)) (items l.entries) ≡ gather (λ r. decided_by (parts_in r)) (items (drop l.entry-index l.entries))
