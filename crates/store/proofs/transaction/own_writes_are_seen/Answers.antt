use Rattle.store.proofs.Written as laws
use Rattle.store.proofs.transaction.own_writes_are_seen.Goals as goal

pub returns : goal.returns
returns c = laws.writes_are_seen
