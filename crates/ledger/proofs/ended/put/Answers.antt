use Rattle.std.proofs.Common.{◌≡◌, ◌∙◌, true, false, List, insert, sym, ap, subst}
use Rattle.units.specs.ById.{IsById}
use Rattle.units.specs.Fronts.{front}
use Rattle.units.specs.Ids.{Id, older, has_id}
use Rattle.units.proofs.FrontLaws.{with_there, with_new, with_id-is, has_id-is, by_id-with_id}
use Rattle.ledger.proofs.ended.put.Goals as goal

pub returns-then-is_among-clause-items : goal.returns-then-is_among-clause-items
returns-then-is_among-clause-items c =
    let ids = c.args.ids.now.items in
    let here : has_id ids c.args.txn ≡ true = ap (λ (l : List Id). has_id l c.args.txn) (sym c.deref.ensures.value) ∙ sym c.is_among.ensures
    ∙ c.if-is_among.true in
    sym (with_there ids c.args.txn c.requires.order here)

pub returns-clause-items : goal.returns-clause-items
returns-clause-items c =
    let ids = c.args.ids.now.items in
    let none : has_id ids c.args.txn ≡ false = ap (λ (l : List Id). has_id l c.args.txn) (sym c.deref.ensures.value) ∙ sym c.is_among.ensures
    ∙ c.if-is_among.false in
    c.in-Ok.ensures.items
    ∙ ap (λ n. insert ids n c.args.txn) (c.place_of.ensures.place ∙ ap (λ (l : List Id). front (λ id. older id c.args.txn) l) c.deref-2.ensures.value)
    ∙ with_new (λ id. id) ids c.args.txn (has_id-is ids c.args.txn ∙ none)
    ∙ sym (with_id-is ids c.args.txn)

pub returns-clause-order : goal.returns-clause-order
returns-clause-order c =
    subst (IsById (λ (id : Id). id)) (sym (returns-clause-items c)) (by_id-with_id c.args.ids.now.items c.args.txn c.requires.order)
