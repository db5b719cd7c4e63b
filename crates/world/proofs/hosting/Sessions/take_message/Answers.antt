use Rattle.std.proofs.Common.{None, Ok, Err, inr, sym, subst}
use Rattle.units.specs.Ids.{Id}
use Rattle.world.specs.Comes.{TakesMessage}
use Rattle.world.specs.Held.{when_closing}
use Rattle.world.specs.Hosts.{MovesIn, session_step}
use Rattle.world.specs.World.{client_of}
use Rattle.world.proofs.Replying.{no_others, takes_answer, takes_end}
use Rattle.world.proofs.hosting.Sessions.take_message.Goals as goal

pub returns-in-ReadAnswer : goal.returns-in-ReadAnswer
returns-in-ReadAnswer c w h =
    subst (λ m. TakesMessage w m c.hear.new.self c.hear.result) (sym c.in-ReadAnswer.is)
    (takes_answer w c.hear.new.self c.in-ReadAnswer.answer c.hear.result (c.hear.ensures w.config.splits w.clients h))

pub returns-in_default : goal.returns-in_default
returns-in_default c w h = inr (no_others w c.args.self.now c.args.message.now c.in_default.not-ReadAnswer c.in_default.not-Done, h)

pub returns-in-Ok : goal.returns-in-Ok
returns-in-Ok c w h =
    subst (λ m. TakesMessage w m c.step.new.self (Ok None)) (sym c.in-Done.is)
    (takes_end w c.step.new.self c.in-Done.done (Ok c.in-Ok.out)
    (subst (λ (t : Id). MovesIn w.config.splits (session_step when_closing (client_of w t)) c.step.new.self w.clients (Ok c.in-Ok.out)) c.txn.ensures
    (c.in-Ok.ensures w.config.splits w.clients h)))

pub returns-in-Err : goal.returns-in-Err
returns-in-Err c w h =
    subst (λ m. TakesMessage w m c.step.new.self (Err c.in-Err.fault)) (sym c.in-Done.is)
    (takes_end w c.step.new.self c.in-Done.done (Err c.in-Err.fault)
    (subst (λ (t : Id). MovesIn w.config.splits (session_step when_closing (client_of w t)) c.step.new.self w.clients (Err c.in-Err.fault)) c.txn.ensures
    (c.in-Err.ensures w.config.splits w.clients h)))
