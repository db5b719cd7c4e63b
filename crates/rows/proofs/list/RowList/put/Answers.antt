use Rattle.std.proofs.Common.{◌≡◌, ◌<◌, ◌∙◌, sym, ap, subst, arith, length, false, List}
use Rattle.std.specs.List.{position_or_len}
use Rattle.units.specs.Limits.{most_rows}
use Rattle.units.specs.Ids.{Id, older}
use Rattle.units.proofs.ByIdLaws.{insert_is_with}
use Rattle.rows.specs.declared.row.Row.{Row}
use Rattle.rows.specs.CodeRows.{IsRowList, txn_of, has_txn, put_in}
use Rattle.rows.proofs.Lists.{row_list-put}
use Rattle.rows.proofs.list.RowList.put.Goals as goal

pub invariant_of-self : goal.invariant_of-self
invariant_of-self c =
    let items = c.self.inside.rows.items in
    let absent : has_txn items (txn_of c.args.row) ≡ false = ap (λ rows. has_txn rows (txn_of c.args.row)) c.self.view_is ∙ c.requires.absent in
    let at = c.place_for-at.ensures.place
    ∙ ap (λ (i : Id). position_or_len (λ r. older i (txn_of r)) c.deref.result.now) c.txn.ensures
    ∙ ap (position_or_len (λ r. older (txn_of c.args.row) (txn_of r))) c.deref.ensures.value in
    let room : length items < most_rows = subst (λ (t : List Row). length t < most_rows) (sym c.self.view_is) c.requires.room in
    let is = insert_is_with txn_of items c.args.row c.place_for-at.result absent at in (
      subst IsRowList (sym (c.in-Ok.ensures.items ∙ is)) (row_list-put items c.args.row room c.self.invariant.0),
      omega (arith, c.in-Ok.ensures.capacity, c.self.invariant.1),
    )

pub returns : goal.returns
returns c =
    let items = c.self.inside.rows.items in
    let absent : has_txn items (txn_of c.args.row) ≡ false = ap (λ rows. has_txn rows (txn_of c.args.row)) c.self.view_is ∙ c.requires.absent in
    let at = c.place_for-at.ensures.place
    ∙ ap (λ (i : Id). position_or_len (λ r. older i (txn_of r)) c.deref.result.now) c.txn.ensures
    ∙ ap (position_or_len (λ r. older (txn_of c.args.row) (txn_of r))) c.deref.ensures.value in
    c.in-Ok.ensures.items ∙ insert_is_with txn_of items c.args.row c.place_for-at.result absent at ∙ ap (λ rows. put_in rows c.args.row) c.self.view_is
