use Rattle.std.specs.List.{list_any}
use Rattle.std.proofs.Common.{◌∙◌}
use Rattle.units.proofs.KeyLaws.{same_key_comm}
use Rattle.session.proofs.lists.has_key.Goals as goal

pub returns : goal.returns
returns c = c.contains.ensures.value ∙ (λ i. list_any (λ k. same_key_comm k c.args.key.now i) c.args.keys.now)
