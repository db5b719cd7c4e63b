use Rattle.ledger.proofs.Steps as laws
use Rattle.ledger.proofs.laws.alike_steps.Goals as goal

pub returns : goal.returns
returns c = laws.same-step
