use Rattle.record.proofs.NoesAreRight as laws
use Rattle.record.proofs.laws.each_no_is_right.Goals as goal

pub returns : goal.returns
returns c = laws.each_no_is_right
