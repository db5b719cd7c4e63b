use Rattle.facts.proofs.Entries.{shown_put}
use Rattle.facts.proofs.table.set.Goals as goal

pub returns : goal.returns
returns c = shown_put c.args.statuses.now.entries _ c.args.txn c.args.status c.in-Ok.ensures.updates.0
