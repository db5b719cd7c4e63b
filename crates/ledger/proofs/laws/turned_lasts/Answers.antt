use Rattle.ledger.proofs.Again as laws
use Rattle.ledger.proofs.laws.turned_lasts.Goals as goal

pub returns : goal.returns
returns c = laws.turned-lasts
