use Rattle.std.proofs.Common.{rules, not}
use Rattle.std.proofs.lemmas.Fn.{filter_same}
use Rattle.units.specs.Keys.{same_key}
use Rattle.units.specs.declared.writes.Write.{Write}
use Rattle.session.proofs.lists.drop_write.Goals as goal

pub returns-clause-same : goal.returns-clause-same
returns-clause-same c =
    filter_same _ (λ (w : Write). not (same_key w.key c.args.key.now)) _ (λ x b f' k. search rules) _ _ c.retain.ensures.filtered
