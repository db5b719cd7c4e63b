use Rattle.law.proofs.HasAreas.{always_has_areas, areas_keep}
use Rattle.law.proofs.laws.areas_keep.Goals as goal

pub returns-clause-left : goal.returns-clause-left
returns-clause-left c = areas_keep

pub returns-clause-read : goal.returns-clause-read
returns-clause-read c = always_has_areas
