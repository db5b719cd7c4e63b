use Rattle.ledger.proofs.Lasts as laws
use Rattle.ledger.proofs.laws.log_is_of_shard.Goals as goal

pub returns : goal.returns
returns c = laws.log-is-of-shard
