use Rattle.accounts.proofs.Sums.{kept_between}
use Rattle.accounts.proofs.laws.kept_between.Goals as goal

pub returns : goal.returns
returns c = kept_between
