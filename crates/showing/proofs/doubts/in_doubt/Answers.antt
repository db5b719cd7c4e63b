use Rattle.std.proofs.Common.{◌≡◌, IfOk, List, subst}
use Rattle.indexmap.specs.IndexMap.{get}
use Rattle.units.specs.Ids.{same_id}
use Rattle.recovery.specs.Recovered.{items}
use Rattle.showing.specs.declared.stats.InDoubt.{InDoubt}
use Rattle.showing.proofs.Doubting.{doubts_of_records}
use Rattle.showing.proofs.doubts.in_doubt.Goals as goal

pub returns-clause-doubts : goal.returns-clause-doubts
returns-clause-doubts c =
    subst (λ (ds : List InDoubt). IfOk c.doubts_by.result (λ doubts. doubts.items ≡ ds))
    (doubts_of_records (items c.args.entries.now) (get same_id c.in_ok-ends.ends) c.in_ok-ends.ensures.ends)
    c.doubts_by.ensures.doubts
