use Rattle.std.proofs.Common.{rules}
use Rattle.low_promises.proofs.reading.decode.Goals as goal

pub returns-clause-spelled : goal.returns-clause-spelled
returns-clause-spelled c = search rules

pub returns-clause-memory : goal.returns-clause-memory
returns-clause-memory c = search rules
