use Rattle.ledger.proofs.Lasts as laws
use Rattle.ledger.proofs.laws.log_lasts.Goals as goal

pub returns : goal.returns
returns c = laws.log-lasts
