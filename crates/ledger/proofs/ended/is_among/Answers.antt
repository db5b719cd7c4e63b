use Rattle.std.proofs.Common.{◌≡◌, ◌<◌, ◌≤◌, ◌∙◌, ℕ, false, length, get_or, nat_lt, sym, ap, subst, arith}
use Rattle.std.proofs.lemmas.Bool.Decides.{nat_tests}
use Rattle.units.specs.Ids.{same_id}
use Rattle.units.proofs.FrontLaws.{has_at, has_past, has_id-is}
use Rattle.ledger.proofs.ended.is_among.Goals as goal

pub returns-then-place-ids : goal.returns-then-place-ids
returns-then-place-ids c =
    let ids = c.args.ids.now in
    let found = c.index-ids-place.result in
    let place = c.place_of-place.ensures.place in
    c.eq.ensures
    ∙ ap (λ id. same_id id c.args.txn) (c.index-ids-place.is ∙ ap (λ n. get_or ids n found) place)
    ∙ has_at (λ id. id) ids c.args.txn found c.requires (subst (λ (n : ℕ). n < length ids) place c.if-place-ids.true)
    ∙ has_id-is ids c.args.txn

pub returns-else-place-ids : goal.returns-else-place-ids
returns-else-place-ids c =
    let ids = c.args.ids.now in
    let none : nat_lt c.place_of-place.result (length ids) ≡ false = grind (arith, nat_tests, c.if-place-ids.false) in
    none
    ∙ sym (has_past (λ id. id) ids c.args.txn (subst (λ (n : ℕ). length ids ≤ n) c.place_of-place.ensures.place (omega (arith, c.if-place-ids.false))))
    ∙ has_id-is ids c.args.txn
