use Rattle.record.proofs.LearnAgrees as laws
use Rattle.record.proofs.laws.learnt_agrees.Goals as goal

pub returns : goal.returns
returns c = laws.learnt_agrees
