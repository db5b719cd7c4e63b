use Rattle.accounts.proofs.Transferring.{transfers_conserve}
use Rattle.accounts.proofs.laws.transfers_conserve.Goals as goal

pub returns : goal.returns
returns c = transfers_conserve
