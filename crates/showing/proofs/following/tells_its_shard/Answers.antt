use Rattle.showing.proofs.Whose as laws
use Rattle.showing.proofs.following.tells_its_shard.Goals as goal

pub returns : goal.returns
returns c = laws.tells
