use Rattle.protocol.proofs.OwnKeys as laws
use Rattle.protocol.proofs.laws.logged_belongs.Goals as goal

pub returns : goal.returns
returns c = laws.logged_belongs
