use Rattle.law.proofs.Passing.{all_are_whole}
use Rattle.law.proofs.laws.all_are_whole.Goals as goal

pub returns : goal.returns
returns c = all_are_whole
