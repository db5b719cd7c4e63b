use Rattle.ledger.proofs.One as laws
use Rattle.ledger.proofs.laws.held_in_order.Goals as goal

pub returns : goal.returns
returns c = laws.held-in_order
