use Rattle.protocol.proofs.Refusals.{own_refusals}
use Rattle.protocol.proofs.laws.own_refusals.Goals as goal

pub returns : goal.returns
returns c = own_refusals
