use Rattle.std.proofs.Common.{rules}
use Rattle.plan_promises.proofs.taking_part.prepare.Goals as goal

pub returns-clause-planned : goal.returns-clause-planned
returns-clause-planned c = search rules

pub returns-clause-fit : goal.returns-clause-fit
returns-clause-fit c = search rules
