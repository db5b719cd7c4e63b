use Rattle.accounts.proofs.BySessions.{sessions_conserve}
use Rattle.accounts.proofs.laws.sessions_conserve.Goals as goal

pub returns : goal.returns
returns c = sessions_conserve
