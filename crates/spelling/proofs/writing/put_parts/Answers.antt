use Rattle.std.proofs.Common.{◌≡◌, arith, subst}
use Rattle.units.specs.Masks.{shards_of_mask}
use Rattle.spelling.proofs.writing.put_parts.Goals as goal

pub returns-clause-fits : goal.returns-clause-fits
returns-clause-fits c done =
    let value = c.mask.ensures.value in
    record {
      some = omega (arith, value, c.mask.ensures.some);
      below = omega (arith, value, c.mask.type_inv);
      shards = subst (λ mask. shards_of_mask mask ≡ c.args.parts) value c.mask.ensures.shards;
    }
