use Rattle.record.proofs.LearnAgrees as laws
use Rattle.record.proofs.laws.accepted_follows.Goals as goal

pub returns : goal.returns
returns c = laws.accepted_follows
