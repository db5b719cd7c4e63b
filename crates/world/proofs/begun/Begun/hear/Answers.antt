use Rattle.world.proofs.HeldSteps.{open_hears}
use Rattle.world.proofs.begun.Begun.hear.Goals as goal

pub returns-in-Open : goal.returns-in-Open
returns-in-Open c =
    let made = c.take_answer in
    open_hears c.args.self.now c.in-Open.tx made.new.tx c.args.answer.now made.result c.in-Open.is made.ensures.splits made.ensures.client
    made.ensures.line made.ensures.memory
