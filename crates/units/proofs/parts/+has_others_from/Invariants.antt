use Rattle.units.proofs.parts.+has_others_from.Given as goal

abbrev pub decreases-has_others_from : goal.decreases-has_others_from
decreases-has_others_from l = l.bits
