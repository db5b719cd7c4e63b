use Rattle.ledger.proofs.Stands as laws
use Rattle.ledger.proofs.laws.alike_stands.Goals as goal

pub returns : goal.returns
returns c = laws.alike-stands
