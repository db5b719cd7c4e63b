use Rattle.units.proofs.parts.+has_from.Given as goal

abbrev pub decreases-has_from : goal.decreases-has_from
decreases-has_from l = l.bits
