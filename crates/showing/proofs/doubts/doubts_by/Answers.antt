use Rattle.std.proofs.Common.{◌∙◌, ◌++◌, ◌∷◌, [], List, Option, ap, ap₂, arith, sym}
use Rattle.std.proofs.lemmas.List.{take_all}
use Rattle.indexmap.specs.IndexMap.{get}
use Rattle.units.specs.Ids.{same_id}
use Rattle.units.specs.Lists.{gather}
use Rattle.record.specs.declared.record.Record.{Record}
use Rattle.frames.specs.Placed.{Placed}
use Rattle.recovery.specs.Recovered.{items}
use Rattle.showing.specs.Stats.{as_begun, doubt_of}
use Rattle.showing.specs.declared.stats.InDoubt.{InDoubt}
use Rattle.showing.proofs.Doubting.{gathered_more}
use Rattle.showing.proofs.doubts.doubts_by.Goals as goal

pub loop-entry-preserved : goal.loop-entry-preserved
loop-entry-preserved c =
    let f : Record → Option InDoubt = λ r. doubt_of (get same_id c.args.ends.now) (as_begun r) in
    c.in_ok-note.ensures.noted
    ∙ ap₂ (λ (ds : List InDoubt) (r : Record). ds ++ gather f (r ∷ [])) c.loop-entry.invariant c.item.ensures
    ∙ sym (gathered_more f c.args.entries.now c.loop-entry.entry-index c.entry-item.result c.loop-entry-test.true c.entry-item.is)

pub returns-clause-doubts : goal.returns-clause-doubts
returns-clause-doubts c =
    let f : Record → Option InDoubt = λ r. doubt_of (get same_id c.args.ends.now) (as_begun r) in
    c.loop-entry.invariant
    ∙ ap (λ (es : List Placed). gather f (items es)) (take_all c.loop-entry.entry-index c.args.entries.now (omega (arith, c.loop-entry-test.false)))
