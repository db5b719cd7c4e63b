use Rattle.tickets.proofs.Draw.{each_once}
use Rattle.tickets.proofs.source.each_once.Goals as goal

pub returns : goal.returns
returns c = each_once
