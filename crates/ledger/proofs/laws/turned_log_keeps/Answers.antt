use Rattle.ledger.proofs.Come as laws
use Rattle.ledger.proofs.laws.turned_log_keeps.Goals as goal

pub returns : goal.returns
returns c = laws.turned-log-keeps
