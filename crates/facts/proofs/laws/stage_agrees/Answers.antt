use Rattle.facts.proofs.Known as laws
use Rattle.facts.proofs.laws.stage_agrees.Goals as goal

pub returns : goal.returns
returns c = laws.stage_agrees
