use Rattle.images.proofs.Unturned as laws
use Rattle.images.proofs.laws.areas_are_logs.Goals as goal

pub returns : goal.returns
returns c = laws.areas_are_logs
