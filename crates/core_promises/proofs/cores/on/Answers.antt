use Rattle.std.proofs.Common.{rules}
use Rattle.core_promises.proofs.cores.on.Goals as goal

pub returns-clause-stepped : goal.returns-clause-stepped
returns-clause-stepped g c = search rules

pub returns-clause-crowded : goal.returns-clause-crowded
returns-clause-crowded g c = search rules

pub returns-clause-settled : goal.returns-clause-settled
returns-clause-settled g c = search rules

pub returns-clause-entered : goal.returns-clause-entered
returns-clause-entered g c = search rules
