use Rattle.protocol.proofs.Taken.{taken_is_showable}
use Rattle.protocol.proofs.serving.taken_is_showable.Goals as goal

pub returns : goal.returns
returns c = taken_is_showable
