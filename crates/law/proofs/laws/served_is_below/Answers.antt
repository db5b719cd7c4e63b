use Rattle.law.proofs.ServedHold.{served_is_below}
use Rattle.law.proofs.laws.served_is_below.Goals as goal

pub returns : goal.returns
returns c = served_is_below
