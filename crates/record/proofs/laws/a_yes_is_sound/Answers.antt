use Rattle.record.proofs.WholeForAll.{yes_is_sound}
use Rattle.record.proofs.laws.a_yes_is_sound.Goals as goal

pub returns : goal.returns
returns c = yes_is_sound
