use Rattle.accounts.proofs.Sums.{kept_from_the_start}
use Rattle.accounts.proofs.laws.kept_from_the_start.Goals as goal

pub returns : goal.returns
returns c = kept_from_the_start
