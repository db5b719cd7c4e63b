use Rattle.std.proofs.Common.{rules}
use Rattle.core_promises.proofs.openings.rebuild.Goals as goal

pub returns-clause-found : goal.returns-clause-found
returns-clause-found c = search rules

pub returns-clause-accepted : goal.returns-clause-accepted
returns-clause-accepted c = search rules

pub returns-clause-refused : goal.returns-clause-refused
returns-clause-refused c = search rules
