use Rattle.protocol.proofs.WithinLimit as laws
use Rattle.protocol.proofs.laws.stays_within.Goals as goal

pub returns : goal.returns
returns c = laws.stays_within
