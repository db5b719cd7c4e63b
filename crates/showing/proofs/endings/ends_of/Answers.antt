use Rattle.std.proofs.Common.{◌∙◌, ◌∷◌, [], List, ap, sym, take}
use Rattle.std.specs.Option.{option_or}
use Rattle.record.specs.declared.record.Record.{Record}
use Rattle.recovery.specs.Recovered.{items}
use Rattle.showing.specs.Histories.{end_in}
use Rattle.showing.proofs.Accepting.{next_items}
use Rattle.showing.proofs.Ended.{ends_more}
use Rattle.showing.proofs.endings.ends_of.Goals as goal

pub loop-entry-preserved : goal.loop-entry-preserved
loop-entry-preserved c t =
    c.in_ok-note_end.ensures.noted t
    ∙ (λ i. option_or (c.loop-entry.invariant t i) (end_in (c.item.ensures i ∷ []) t))
    ∙ sym (ap (λ (rs : List Record). end_in rs t)
    (next_items c.args.entries.now c.loop-entry.entry-index c.entry-item.result c.loop-entry-test.true c.entry-item.is)
    ∙ ends_more (items (take c.loop-entry.entry-index c.args.entries.now)) c.entry-item.result.item t)
