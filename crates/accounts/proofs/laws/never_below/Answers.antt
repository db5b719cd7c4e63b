use Rattle.accounts.proofs.Sums.{never_below}
use Rattle.accounts.proofs.laws.never_below.Goals as goal

pub returns : goal.returns
returns c = never_below
