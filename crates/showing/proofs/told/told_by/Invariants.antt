-- What the records that were read say is told.
use Rattle.std.proofs.Common.{◌≡◌, take, flat_map}
use Rattle.indexmap.specs.IndexMap.{get}
use Rattle.units.specs.Ids.{same_id}
use Rattle.recovery.specs.Recovered.{items}
use Rattle.showing.specs.Histories.{told_by}
use Rattle.showing.proofs.told.told_by.Given as goal

abbrev pub invariant-loop-entry : goal.invariant-loop-entry
invariant-loop-entry l =
    l.told.items ≡ flat_map (told_by (get same_id l.ends) l.key) (items (take l.entry-index l.entries))
