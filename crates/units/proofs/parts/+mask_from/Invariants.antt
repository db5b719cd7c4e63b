use Rattle.units.proofs.parts.+mask_from.Given as goal

abbrev pub decreases-mask_from : goal.decreases-mask_from
decreases-mask_from l = l.bits
