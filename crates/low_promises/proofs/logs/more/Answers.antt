use Rattle.std.proofs.Common.{rules}
use Rattle.low_promises.proofs.logs.more.Goals as goal

pub returns-clause-at : goal.returns-clause-at
returns-clause-at g c = search rules

pub returns-clause-total : goal.returns-clause-total
returns-clause-total g c = search rules

pub returns-clause-there : goal.returns-clause-there
returns-clause-there g c = search rules
