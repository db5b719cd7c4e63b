use Rattle.std.proofs.Common.{◌≡◌, arith, sym, ap, ◌∙◌, true}
use Rattle.std.proofs.lemmas.List.{get_or_default}
use Rattle.units.specs.Ids.{same_id}
use Rattle.rows.specs.declared.row.Row.{Row}
use Rattle.rows.specs.CodeRows.{txn_of}
use Rattle.units.proofs.ListLaws.{find-is}
use Rattle.units.proofs.ByIdHalves.{found_by_halves, none_by_halves}
use Rattle.rows.proofs.list.found.Goals as goal
use Rattle.rows.proofs.list.found.Goals.{else-at-rows-via-then-at-rows+else-is_of, else-at-rows-via-else-at-rows}

pub returns-then-is_of : goal.returns-then-is_of
returns-then-is_of c =
    let rows = c.args.rows.now in
    let at = c.first_from-at.result in
    let one = c.index-rows-at-then-is_of.result in
    let same : one ≡ c.index-rows-at.result =
    c.index-rows-at-then-is_of.is ∙ get_or_default rows at one c.index-rows-at.result c.if-at-rows.true ∙ sym c.index-rows-at.is in
    let is : same_id (txn_of one) c.args.txn ≡ true = ap (λ (r : Row). same_id (txn_of r) c.args.txn) same ∙ sym c.is_of.ensures ∙ c.if-is_of.true in
    sym (find-is (λ (r : Row). same_id (txn_of r) c.args.txn) rows
    ∙ found_by_halves txn_of rows c.args.txn at one
    c.if-at-rows.true c.index-rows-at-then-is_of.is is c.first_from-at.ensures.parted)

pub returns : goal.returns
returns c =
    sym (find-is (λ (r : Row). same_id (txn_of r) c.args.txn) c.args.rows.now
    ∙ none_by_halves txn_of c.args.rows.now c.args.txn c.first_from-at.result c.requires
    (λ y lt at. elim c.else-at-rows.branch [
      | else-at-rows-via-then-at-rows+else-is_of w ↦
          ap (λ (r : Row). same_id (txn_of r) c.args.txn)
          (at ∙ get_or_default c.args.rows.now c.first_from-at.result y w.index-rows-at.result lt ∙ sym w.index-rows-at.is)
          ∙ sym w.is_of.ensures ∙ w.if-is_of.false
      | else-at-rows-via-else-at-rows w ↦ absurd (omega (arith, lt, w.if-at-rows.false))
    ])
    c.first_from-at.ensures.parted)
