use Rattle.ledger.proofs.One as laws
use Rattle.ledger.proofs.laws.alike_turned.Goals as goal

pub returns : goal.returns
returns c = laws.one-turnover
