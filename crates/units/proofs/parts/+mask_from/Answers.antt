use Rattle.std.proofs.Common.{◌<◌, arith}
use Rattle.units.proofs.Marked.{bit_below}
use Rattle.units.proofs.parts.+mask_from.Goals.{then-is_among, else-is_among}
use Rattle.units.proofs.parts.+mask_from.Goals as goal

pub returns-clause-limit : goal.returns-clause-limit
returns-clause-limit t c =
    let bit = c.if-is_among.bit in
    let small : bit < 2 =
    elim c.if-is_among.branch as (λ _. bit < 2) [ then-is_among w ↦ omega (arith, w.bit-is) | else-is_among w ↦ omega (arith, w.bit-is) ] in
    bit_below c.args.bits c.mask_from-above.result bit (omega (arith, c.if-bits-eq0.false)) c.mask_from-above.ensures.limit small
