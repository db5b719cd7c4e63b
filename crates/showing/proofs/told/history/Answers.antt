use Rattle.std.proofs.Common.{◌≡◌, IfOk, List, subst}
use Rattle.indexmap.specs.IndexMap.{get}
use Rattle.units.specs.Ids.{same_id}
use Rattle.recovery.specs.Recovered.{items}
use Rattle.showing.specs.declared.told.Told.{Told}
use Rattle.showing.proofs.Telling.{told_of_records}
use Rattle.showing.proofs.told.history.Goals as goal

pub returns-clause-told : goal.returns-clause-told
returns-clause-told c =
    subst (λ (ts : List Told). IfOk c.told_by.result (λ told. told.items ≡ ts))
    (told_of_records (items c.args.entries.now) (get same_id c.in_ok-ends.ends) c.args.key.now c.in_ok-ends.ensures.ends)
    c.told_by.ensures.told
