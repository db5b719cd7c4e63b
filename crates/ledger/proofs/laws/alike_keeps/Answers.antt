use Rattle.ledger.proofs.Alike as laws
use Rattle.ledger.proofs.laws.alike_keeps.Goals as goal

pub returns : goal.returns
returns c = laws.alike-keeps
