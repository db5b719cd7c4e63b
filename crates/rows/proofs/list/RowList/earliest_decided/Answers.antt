use Rattle.std.proofs.Common.{◌+◌, ◌∙◌, sym, ap, subst, take, Option, ℕ}
use Rattle.units.specs.Lists.{gather}
use Rattle.units.specs.Ids.{Id}
use Rattle.rows.specs.CodeRows.{stamp_if_decided}
use Rattle.rows.specs.RowTable.{IsEarliest, earlier}
use Rattle.rows.proofs.Earliest.{one_step}
use Rattle.rows.proofs.list.RowList.earliest_decided.Goals as goal

pub loop-row-preserved : goal.loop-row-preserved
loop-row-preserved c =
    let rows = c.deref-row-items.result.now in
    let i = c.loop-row.row-index in
    subst (λ (o : Option (Id × ℕ)). IsEarliest (gather stamp_if_decided (take (i + 1) rows)) o)
    (sym (c.earlier-earliest.ensures ∙ ap (λ (o : Option (Id × ℕ)). earlier c.loop-row.earliest o) c.decided.ensures))
    (one_step stamp_if_decided rows i c.row-item.result c.loop-row.earliest c.loop-row-test.true c.row-item.is c.loop-row.invariant)
