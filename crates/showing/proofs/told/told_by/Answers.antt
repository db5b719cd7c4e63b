use Rattle.std.proofs.Common.{◌∙◌, ◌++◌, ap, arith, List, flat_map}
use Rattle.std.proofs.lemmas.List.{take_all}
use Rattle.indexmap.specs.IndexMap.{get}
use Rattle.units.specs.Ids.{same_id}
use Rattle.frames.specs.Placed.{Placed}
use Rattle.recovery.specs.Recovered.{items}
use Rattle.showing.specs.Histories.{told_by}
use Rattle.showing.proofs.Behind.{seen_behind}
use Rattle.showing.proofs.told.told_by.Goals as goal

pub loop-entry-preserved : goal.loop-entry-preserved
loop-entry-preserved c =
    let tells = told_by (get same_id c.args.ends.now) c.args.key.now in
    seen_behind (λ (e : Placed). e.item) tells c.args.entries.now c.loop-entry.entry-index c.entry-item.result c.loop-entry.told.items
    c.tell.new.told.items c.loop-entry-test.true c.entry-item.is c.loop-entry.invariant
    (c.in_ok-tell.ensures.told ∙ ap (λ r. c.loop-entry.told.items ++ tells r) c.item.ensures)

pub returns-clause-told : goal.returns-clause-told
returns-clause-told c =
    c.loop-entry.invariant
    ∙ ap (λ (es : List Placed). flat_map (told_by (get same_id c.args.ends.now) c.args.key.now) (items es))
    (take_all c.loop-entry.entry-index c.args.entries.now (omega (arith, c.loop-entry-test.false)))
