use Rattle.std.proofs.Common.{rules}
use Rattle.low_promises.proofs.logs.front_of.Goals as goal

pub returns : goal.returns
returns c = search rules
