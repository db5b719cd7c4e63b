use Rattle.protocol.proofs.StepSound as laws
use Rattle.protocol.proofs.laws.fresh_is_sound.Goals as goal

pub returns : goal.returns
returns c = laws.fresh_is_sound
