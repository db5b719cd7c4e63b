use Rattle.std.proofs.Common.{Ok, refl, sym, subst}
use Rattle.world.specs.Held.{Moves, ends}
use Rattle.world.specs.declared.begun.Begun.{Begun}
use Rattle.world.specs.declared.begun.Held.TheVariants.{Closing, Over}
use Rattle.world.proofs.HeldSteps.{close_moves, finish_moves, quit_closing, quit_open}
use Rattle.world.proofs.begun.Held.leave.Goals as goal

pub returns-in-Ok : goal.returns-in-Ok
returns-in-Ok c splits d begun =
    let b : Begun = record { txn = c.args.txn; held = c.args.self } in
    subst (λ l. Moves splits (ends splits l d) (record { txn = c.args.txn; held = Closing c.in-Ok.tx }) d (Ok c.in-Ok.out)) (sym c.in-Close.is)
    (close_moves b c.in-Open.tx c.in-Ok.tx c.in-Ok.out c.in-Open.is c.in-Ok.ensures.splits c.in-Ok.ensures.step splits d begun)

pub returns-in-Ok-give_up : goal.returns-in-Ok-give_up
returns-in-Ok-give_up c splits d begun =
    let b : Begun = record { txn = c.args.txn; held = c.args.self } in
    let gone : Begun = record { txn = c.args.txn; held = Over } in
    subst (λ l. Moves splits (ends splits l d) gone d (Ok c.in-Ok-give_up.out)) (sym c.in-Quit.is)
    (quit_open b gone c.in-Open.tx c.in-Ok-give_up.out c.in-Open.is c.in-Ok-give_up.ensures refl splits d begun)

pub returns-in-Ok-give_up-2 : goal.returns-in-Ok-give_up-2
returns-in-Ok-give_up-2 c splits d begun =
    let b : Begun = record { txn = c.args.txn; held = c.args.self } in
    let gone : Begun = record { txn = c.args.txn; held = Over } in
    subst (λ l. Moves splits (ends splits l d) gone d (Ok c.in-Ok-give_up-2.out)) (sym c.in-Quit-leave.is)
    (quit_closing b gone c.in-Closing.tx c.in-Ok-give_up-2.out c.in-Closing.is c.in-Ok-give_up-2.ensures refl splits d begun)

pub returns-in-Ok-take : goal.returns-in-Ok-take
returns-in-Ok-take c splits d begun =
    let b : Begun = record { txn = c.args.txn; held = c.args.self } in
    let gone : Begun = record { txn = c.args.txn; held = Over } in
    subst (λ l. Moves splits (ends splits l d) gone d (Ok c.none.result)) (sym c.in-Hear-leave.is)
    (finish_moves b gone c.in-Closing.tx c.none.result c.in-Closing.is c.none.ensures refl splits d begun)
