use Rattle.std.proofs.Common.{rules, not}
use Rattle.std.proofs.lemmas.Fn.{filter_same}
use Rattle.units.specs.Keys.{same_key}
use Rattle.session.proofs.lists.drop_key.Goals as goal

pub returns : goal.returns
returns c = record {
  same = filter_same _ (λ j. not (same_key j c.args.key.now)) _ (λ x b f' k. search rules) _ _ c.retain.ensures.filtered;
}
