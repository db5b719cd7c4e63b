use Rattle.record.proofs.SoundIsYes as laws
use Rattle.record.proofs.laws.sound_is_yes.Goals as goal

pub returns : goal.returns
returns c = laws.sound_is_yes
