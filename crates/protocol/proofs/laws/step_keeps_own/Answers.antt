use Rattle.protocol.proofs.OwnKeys as laws
use Rattle.protocol.proofs.laws.step_keeps_own.Goals as goal

pub returns : goal.returns
returns c = laws.step_keeps_own
