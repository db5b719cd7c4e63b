use Rattle.std.proofs.Common.{rules}
use Rattle.low_promises.proofs.boards.install.Goals as goal

pub returns : goal.returns
returns g c = search rules
