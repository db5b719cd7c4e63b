use Rattle.store.proofs.Attempts.{never_cut}
use Rattle.store.proofs.clients.Client.transact.Goals as goal

pub returns : goal.returns
returns g c = let came = c.attempts.ensures in (came.0, came.1, never_cut came.2)
