use Rattle.store.proofs.Attempts.{may_be_cut}
use Rattle.store.proofs.clients.Client.transact_within.Goals as goal

pub returns : goal.returns
returns g c = let came = c.attempts.ensures in (came.0, came.1, may_be_cut c.after-deadline.result came.2)
