use Rattle.tickets.proofs.Draw.{ids_differ}
use Rattle.tickets.proofs.source.ids_stay_apart.Goals as goal

pub returns : goal.returns
returns c = ids_differ
