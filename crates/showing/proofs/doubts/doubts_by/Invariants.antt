-- What the records that were read begin and nobody ends is noted.
use Rattle.std.proofs.Common.{◌≡◌, take}
use Rattle.units.specs.Lists.{gather}
use Rattle.indexmap.specs.IndexMap.{get}
use Rattle.units.specs.Ids.{same_id}
use Rattle.recovery.specs.Recovered.{items}
use Rattle.showing.specs.Stats.{as_begun, doubt_of}
use Rattle.showing.proofs.doubts.doubts_by.Given as goal

abbrev pub invariant-loop-entry : goal.invariant-loop-entry
invariant-loop-entry l =
    l.doubts.items
    ≡ gather (λ r. doubt_of (get same_id l.ends) (as_begun r)) (items (take l.entry-index l.entries))
