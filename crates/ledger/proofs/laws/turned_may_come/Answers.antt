use Rattle.ledger.proofs.Come as laws
use Rattle.ledger.proofs.laws.turned_may_come.Goals as goal

pub returns : goal.returns
returns c = laws.turned-may_come
