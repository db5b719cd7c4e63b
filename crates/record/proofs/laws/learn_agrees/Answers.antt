use Rattle.record.proofs.LearnAgrees as laws
use Rattle.record.proofs.laws.learn_agrees.Goals as goal

pub returns : goal.returns
returns c = laws.learn_agrees
