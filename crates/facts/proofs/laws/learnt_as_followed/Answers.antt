use Rattle.facts.proofs.Known as laws
use Rattle.facts.proofs.laws.learnt_as_followed.Goals as goal

pub returns : goal.returns
returns c = laws.learnt_as_followed
