use Rattle.accounts.proofs.BySessions.{services_keep}
use Rattle.accounts.proofs.laws.services_keep.Goals as goal

pub returns : goal.returns
returns c = services_keep
