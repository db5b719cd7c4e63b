use Rattle.std.proofs.Common.{rules, not, sym, subst}
use Rattle.std.proofs.lemmas.Fn.{filter_same}
use Rattle.units.specs.ById.{IsById}
use Rattle.units.specs.Ids.{Id, older}
use Rattle.units.proofs.ByIdLaws.{by_id-keep}
use Rattle.ledger.proofs.ended.keep_from.Goals as goal

pub returns-clause-items : goal.returns-clause-items
returns-clause-items c =
    filter_same _ (λ (t : Id). not (older t c.args.below)) _ (λ x b f' k. search rules) _ _ c.retain.ensures.filtered

pub returns-clause-order : goal.returns-clause-order
returns-clause-order c =
    subst (IsById (λ (id : Id). id)) (sym (returns-clause-items c))
    (by_id-keep (λ (id : Id). id) (λ t. not (older t c.args.below)) c.args.ids.now.items c.requires)
