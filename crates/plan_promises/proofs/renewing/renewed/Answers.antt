use Rattle.std.proofs.Common.{rules}
use Rattle.plan_promises.proofs.renewing.renewed.Goals as goal

pub returns-clause-kept : goal.returns-clause-kept
returns-clause-kept c = search rules

pub returns-clause-memory : goal.returns-clause-memory
returns-clause-memory c = search rules
