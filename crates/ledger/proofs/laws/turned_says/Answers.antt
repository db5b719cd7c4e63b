use Rattle.ledger.proofs.Said as laws
use Rattle.ledger.proofs.laws.turned_says.Goals as goal

pub returns : goal.returns
returns c = laws.turned-says
