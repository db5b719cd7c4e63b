use Rattle.std.proofs.Common.{◌∙◌, ap, sym, subst}
use Rattle.units.specs.ById.{IsById}
use Rattle.units.specs.Locks.{ready}
use Rattle.protocol.specs.Rows.{claims}
use Rattle.memory.specs.Kept.{Kept}
use Rattle.memory.proofs.Fits.{ready_asks}
use Rattle.memory.proofs.state.State.ready.Goals as goal

pub returns-clause-asks : goal.returns-clause-asks
returns-clause-asks c =
    ready_asks c.args.self.now.memory.rows c.ready.result (subst (λ (k : Kept). IsById (λ r. r.txn) k.memory.rows) c.self.view_is c.laws.ensures.order)
    (ap (λ (k : Kept). ready (claims k.memory.rows)) (sym c.self.view_is) ∙ sym c.ready.ensures)
