use Rattle.client.proofs.Seen as laws
use Rattle.client.proofs.reading.seen_stays.Goals as goal

pub returns : goal.returns
returns c = laws.seen_stays
