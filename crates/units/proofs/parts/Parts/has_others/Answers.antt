use Rattle.std.specs.List.{list_any}
use Rattle.std.proofs.Common.{ap, ◌∙◌}
use Rattle.std.specs.Prelude.{not, nat_eq}
use Rattle.units.specs.Masks.{shards_of_mask}
use Rattle.units.proofs.parts.Parts.has_others.Goals as goal

pub returns : goal.returns
returns c =
    c.has_others_from.ensures
    ∙ ap (λ n. list_any (λ k. not (nat_eq k n)) (shards_of_mask c.self.inside.mask)) c.number.ensures.same
    ∙ ap (list_any (λ k. not (nat_eq k c.args.shard))) c.self.view_is
