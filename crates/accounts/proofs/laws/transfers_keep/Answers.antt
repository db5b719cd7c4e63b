use Rattle.accounts.proofs.Transferring.{transfers_keep}
use Rattle.accounts.proofs.laws.transfers_keep.Goals as goal

pub returns : goal.returns
returns c = transfers_keep
