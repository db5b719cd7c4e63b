use Rattle.protocol.proofs.Follows as laws
use Rattle.protocol.proofs.laws.logged_follows.Goals as goal

pub returns : goal.returns
returns c = laws.logged_follows
