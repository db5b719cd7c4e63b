use Rattle.requests.proofs.ReadBack as laws
use Rattle.requests.proofs.spelled.spelled_is_read.Goals as goal

pub returns : goal.returns
returns c = laws.is_read
