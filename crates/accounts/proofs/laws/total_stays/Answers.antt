use Rattle.accounts.proofs.Sums.{total_stays}
use Rattle.accounts.proofs.laws.total_stays.Goals as goal

pub returns : goal.returns
returns c = total_stays
