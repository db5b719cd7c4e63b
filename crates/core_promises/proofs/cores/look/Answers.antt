use Rattle.std.proofs.Common.{rules}
use Rattle.core_promises.proofs.cores.look.Goals as goal

pub returns : goal.returns
returns g c = search rules
