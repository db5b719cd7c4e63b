use Rattle.std.proofs.Common.{rules}
use Rattle.low_promises.proofs.locking.shared_and_exclusive.Goals as goal

pub returns-clause-locks : goal.returns-clause-locks
returns-clause-locks c = search rules

pub returns-clause-memory : goal.returns-clause-memory
returns-clause-memory c = search rules
