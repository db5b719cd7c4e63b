use Rattle.std.proofs.Common.{rules}
use Rattle.node_promises.proofs.sides.open_all.Goals as goal

pub returns-clause-each : goal.returns-clause-each
returns-clause-each g c = search rules

pub returns-clause-refused : goal.returns-clause-refused
returns-clause-refused g c = search rules
