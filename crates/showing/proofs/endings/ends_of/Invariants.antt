-- Of each transaction the end that the records which were read tell of is noted.
use Rattle.std.proofs.Common.{◌≡◌, take}
use Rattle.indexmap.specs.IndexMap.{get}
use Rattle.units.specs.Ids.{Id, same_id}
use Rattle.recovery.specs.Recovered.{items}
use Rattle.showing.specs.Histories.{end_in}
use Rattle.showing.proofs.endings.ends_of.Given as goal

abbrev pub invariant-loop-entry : goal.invariant-loop-entry
invariant-loop-entry l = (t : Id) → get same_id l.ends t ≡ end_in (items (take l.entry-index l.entries)) t
