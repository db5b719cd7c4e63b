use Rattle.facts.proofs.Known as laws
use Rattle.facts.proofs.laws.follows_as_known.Goals as goal

pub returns : goal.returns
returns c = laws.follows_as_known
