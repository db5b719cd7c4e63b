use Rattle.protocol.proofs.InstallsAbove as laws
use Rattle.protocol.proofs.laws.installs_above.Goals as goal

pub returns : goal.returns
returns c = laws.installs_above
