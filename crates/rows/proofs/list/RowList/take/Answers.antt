use Rattle.std.proofs.Common.{◌∙◌, sym, ap, subst, arith}
use Rattle.units.proofs.ByIdLaws.{find_at_place, remove_is_without}
use Rattle.rows.specs.CodeRows.{IsRowList, txn_of, row_of, without_txn}
use Rattle.rows.proofs.Lists.{row_list-without}
use Rattle.rows.proofs.list.RowList.take.Goals as goal

pub invariant_of-self : goal.invariant_of-self
invariant_of-self c =
    let items = c.self.inside.rows.items in
    let is = remove_is_without txn_of items c.args.txn c.place-at.result c.self.invariant.0.order (cc) (omega arith) in (
      subst IsRowList (sym (c.remove.ensures.items ∙ is)) (row_list-without items c.args.txn c.self.invariant.0),
      omega (arith, c.remove.ensures.capacity, c.self.invariant.1),
    )

pub returns : goal.returns
returns c =
    let items = c.self.inside.rows.items in
    record {
      laws = subst IsRowList c.self.view_is c.self.invariant.0;
      row = ap (λ rows. row_of rows c.args.txn) (sym c.self.view_is)
          ∙ find_at_place txn_of items c.args.txn c.place-at.result c.remove.result (cc) (omega arith) c.remove.ensures.value;
      rest = c.remove.ensures.items ∙ remove_is_without txn_of items c.args.txn c.place-at.result c.self.invariant.0.order (cc) (omega arith)
          ∙ ap (λ rows. without_txn rows c.args.txn) c.self.view_is;
    }
