use Rattle.protocol.proofs.StepSound as laws
use Rattle.protocol.proofs.laws.step_keeps_sound.Goals as goal

pub returns : goal.returns
returns c = laws.step_keeps_sound
