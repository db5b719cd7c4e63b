use Rattle.session.specs.declared.answered.Heard.{Heard}
use Rattle.world.proofs.HeldSteps.{line_heard}
use Rattle.world.proofs.begun.take_answer.Goals as goal

pub returns-in-Ok-Value-clause-line : goal.returns-in-Ok-Value-clause-line
returns-in-Ok-Value-clause-line c own =
    let k = rw c.in-Ok-Value.field-0-is at c.in-Ok-Value.ensures.step in
    line_heard c.args.tx.now.client c.answered.new.self.client c.args.answer.now c.args.txn
    (Heard.Value c.in-Ok-Value.value) c.awaits_only_new.ensures k.1 k.2 own

pub returns-in-Ok-Again-clause-line : goal.returns-in-Ok-Again-clause-line
returns-in-Ok-Again-clause-line c own =
    let k = rw c.in-Ok-Again.field-0-is at c.in-Ok-Again.ensures.step in
    line_heard c.args.tx.now.client c.answered.new.self.client c.args.answer.now c.args.txn Heard.Again c.awaits_only_new.ensures k.1 k.2 own

pub returns-in-Ok-Doomed-clause-line : goal.returns-in-Ok-Doomed-clause-line
returns-in-Ok-Doomed-clause-line c own =
    let k = rw c.in-Ok-Doomed.field-0-is at c.in-Ok-Doomed.ensures.step in
    line_heard c.args.tx.now.client c.answered.new.self.client c.args.answer.now c.args.txn Heard.Doomed c.awaits_only_new.ensures k.1 k.2 own
