use Rattle.ledger.proofs.Shards as laws
use Rattle.ledger.proofs.laws.of_shard_stays.Goals as goal

pub returns : goal.returns
returns c = laws.of-shard-stays
