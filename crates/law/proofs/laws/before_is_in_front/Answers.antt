use Rattle.law.proofs.WholeLaw.{before_is_in_front}
use Rattle.law.proofs.laws.before_is_in_front.Goals as goal

pub returns : goal.returns
returns c = before_is_in_front
