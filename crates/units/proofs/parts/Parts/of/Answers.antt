use Rattle.std.proofs.Common.{sym, ◌∙◌, arith}
use Rattle.units.specs.Lists.{once, sorted}
use Rattle.std.specs.Prelude.{nat_lt}
use Rattle.units.proofs.Marked.{from_mask, sorted_once}
use Rattle.units.proofs.parts.Parts.of.Goals as goal

pub returns-clause-none : goal.returns-clause-none
returns-clause-none c =
    let ns = c.args.shards.now in
    (from_mask c.mask_from.result c.from_mask.result (sorted nat_lt (once ns)) c.from_mask.ensures
    (c.mask_from.ensures.shards ∙ sym (sorted_once ns (c.mask_from.ensures.small (omega arith))))).0

pub returns-clause-some : goal.returns-clause-some
returns-clause-some c =
    let ns = c.args.shards.now in
    (from_mask c.mask_from.result c.from_mask.result (sorted nat_lt (once ns)) c.from_mask.ensures
    (c.mask_from.ensures.shards ∙ sym (sorted_once ns (c.mask_from.ensures.small (omega arith))))).1
