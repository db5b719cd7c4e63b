use Rattle.std.proofs.Common.{rules}
use Rattle.low_promises.proofs.boards.look.Goals as goal

pub returns-clause-same : goal.returns-clause-same
returns-clause-same c = search rules

pub returns-clause-answer : goal.returns-clause-answer
returns-clause-answer c = search rules

pub returns-clause-told : goal.returns-clause-told
returns-clause-told c = search rules
