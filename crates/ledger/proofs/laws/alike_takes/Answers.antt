use Rattle.ledger.proofs.Takes as laws
use Rattle.ledger.proofs.laws.alike_takes.Goals as goal

pub returns : goal.returns
returns c = laws.takes-alike
