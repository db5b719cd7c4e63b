use Rattle.law.proofs.WholeLaw.{ids_stand_once}
use Rattle.law.proofs.laws.ids_stand_once.Goals as goal

pub returns : goal.returns
returns c = ids_stand_once
