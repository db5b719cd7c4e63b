use Rattle.accounts.proofs.BySessions.{sessions_keep}
use Rattle.accounts.proofs.laws.sessions_keep.Goals as goal

pub returns : goal.returns
returns c = sessions_keep
