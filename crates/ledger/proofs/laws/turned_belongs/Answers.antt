use Rattle.ledger.proofs.Belongs.{turned-belongs}
use Rattle.ledger.proofs.laws.turned_belongs.Goals as goal

pub returns : goal.returns
returns c = turned-belongs
