use Rattle.std.proofs.Common.{sym, ap, ◌∙◌, subst}
use Rattle.session.specs.Sessions.{buffers, closes, gives_up, reads}
use Rattle.world.specs.World.{acts, client_of}
use Rattle.world.specs.Lawful.{may_act}
use Rattle.world.specs.Comes.{ComesOf}
use Rattle.world.proofs.Replying.{begin_comes, is_new, no_session, not_over_moves, open_moves}
use Rattle.world.proofs.hosting.Sessions.act.Goals as goal

pub returns-in-Ok : goal.returns-in-Ok
unfolding acts
returns-in-Ok c time w hosts output may of =
    let t = c.in-Begin.txn in
    subst (λ a. ComesOf w a c.begin.new.self c.reply_line.new.self c.reply_line.result) (sym (ap (acts w) c.in-Begin.is))
    (begin_comes w c.args.output.now c.reply_line.new.self c.begin.new.self output t c.args.output.now.event c.reply_line.result output.event
    (c.in-Ok.ensures.begun w.config.splits w.clients hosts (is_new w time t (sym (ap (may_act w time) c.in-Begin.is) ∙ may)))
    c.reply_line.ensures)

pub returns-in-Read : goal.returns-in-Read
unfolding acts
returns-in-Read c time w hosts output may of =
    subst (λ a. ComesOf w a c.ask.new.self c.ask.new.output c.ask.result)
    (sym (ap (acts w) c.in-Read.is ∙ open_moves w (client_of w c.in-Read.txn) (reads w.config.splits c.in-Read.key))) (c.ask.ensures w hosts output)

pub returns-in-Write : goal.returns-in-Write
unfolding acts
returns-in-Write c time w hosts output may of =
    subst (λ a. ComesOf w a c.ask-in-Write.new.self c.ask-in-Write.new.output c.ask-in-Write.result)
    (sym (ap (acts w) c.in-Write.is
    ∙ open_moves w (client_of w c.in-Write.txn) (buffers (record { key = c.in-Write.key; value = c.in-Write.value })))) (c.ask-in-Write.ensures w hosts output)

pub returns-in-Close : goal.returns-in-Close
unfolding acts
returns-in-Close c time w hosts output may of =
    subst (λ a. ComesOf w a c.ask-in-Close.new.self c.ask-in-Close.new.output c.ask-in-Close.result)
    (sym (ap (acts w) c.in-Close.is ∙ open_moves w (client_of w c.in-Close.txn) (closes w.config.splits))) (c.ask-in-Close.ensures w hosts output)

pub returns-in-Quit : goal.returns-in-Quit
unfolding acts
returns-in-Quit c time w hosts output may of =
    subst (λ a. ComesOf w a c.ask-in-Quit.new.self c.ask-in-Quit.new.output c.ask-in-Quit.result)
    (sym (ap (acts w) c.in-Quit.is ∙ not_over_moves w (client_of w c.in-Quit.txn) (gives_up w.config.splits))) (c.ask-in-Quit.ensures w hosts output)

pub returns-in_default : goal.returns-in_default
returns-in_default c time w hosts output may of =
    absurd (no_session c.args.act.now of c.in_default.not-Begin c.in_default.not-Read c.in_default.not-Write c.in_default.not-Close c.in_default.not-Quit)
