use Rattle.std.proofs.Common.{rules}
use Rattle.low_promises.proofs.verdicts.inspect.Goals as goal

pub returns-clause-verdict : goal.returns-clause-verdict
returns-clause-verdict c = search rules

pub returns-clause-memory : goal.returns-clause-memory
returns-clause-memory c = search rules
