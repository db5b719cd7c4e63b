use Rattle.std.proofs.Common.{rules}
use Rattle.low_promises.proofs.logs.open_behind.Goals as goal

pub returns-clause-any_moment : goal.returns-clause-any_moment
returns-clause-any_moment g c = search rules

pub returns-clause-done : goal.returns-clause-done
returns-clause-done g c = search rules
