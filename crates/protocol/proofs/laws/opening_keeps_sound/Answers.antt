use Rattle.protocol.proofs.OpeningSound as laws
use Rattle.protocol.proofs.laws.opening_keeps_sound.Goals as goal

pub returns : goal.returns
returns c = laws.opening_keeps_sound
