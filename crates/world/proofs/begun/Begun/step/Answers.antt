use Rattle.std.proofs.Common.{sym, subst}
use Rattle.units.specs.declared.writes.Write.{Write}
use Rattle.session.specs.Sessions.{buffers, reads}
use Rattle.world.specs.Held.{Moves, asks}
use Rattle.world.specs.declared.begun.Begun.{Begun}
use Rattle.world.specs.declared.begun.Held.TheVariants.{Open}
use Rattle.world.proofs.HeldSteps.{buffers_keeps, open_moves, reads_keeps}
use Rattle.world.proofs.begun.Begun.step.Goals as goal

pub returns-in-Open : goal.returns-in-Open
returns-in-Open c splits d begun =
    let b : Begun = c.args.self.now in
    let new : Begun = record { txn = b.txn; held = Open c.ask.new.tx } in
    let k = c.in-Read.key in
    subst (λ s. Moves splits (asks splits s d) new d c.ask.result) (sym c.in-Read.is)
    (open_moves (λ ks. reads ks k) (λ ks. reads_keeps ks k) b c.in-Open.tx c.ask.new.tx c.ask.result c.in-Open.is c.ask.ensures.splits
    c.ask.ensures.step splits d begun)

pub returns-in-Open-held : goal.returns-in-Open-held
returns-in-Open-held c splits d begun =
    let b : Begun = c.args.self.now in
    let new : Begun = record { txn = b.txn; held = Open c.buffer.new.tx } in
    let w : Write = record { key = c.in-Write.key; value = c.in-Write.value.now } in
    subst (λ s. Moves splits (asks splits s d) new d c.buffer.result) (sym c.in-Write.is)
    (open_moves (λ ks. buffers w) (λ ks. buffers_keeps w) b c.in-Open-held.tx c.buffer.new.tx c.buffer.result c.in-Open-held.is
    c.buffer.ensures.splits c.buffer.ensures.step splits d begun)
