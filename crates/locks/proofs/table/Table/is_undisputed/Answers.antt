use Rattle.std.proofs.Common.{◌∙◌, sym, ap, not}
use Rattle.units.specs.Locks.{exclusive, is_free, wounded}
use Rattle.locks.specs.Table.{without_claims}
use Rattle.locks.proofs.Opens.{opens-is}
use Rattle.locks.proofs.WayLaws.{wounded-is}
use Rattle.locks.proofs.table.Table.is_undisputed.Goals as goal

pub returns-clause-nobody : goal.returns-clause-nobody
returns-clause-nobody c =
    let id = c.args.txn in
    let needs = exclusive c.args.writes.now in
    λ yes. sym (ap (λ t. wounded t id needs) c.self.view_is) ∙ wounded-is c.self.inside.claims id needs ∙ c.is_undisputed.ensures.nobody yes

pub returns-clause-opens : goal.returns-clause-opens
returns-clause-opens c =
    let id = c.args.txn in
    let needs = exclusive c.args.writes.now in
    λ yes. sym (ap (λ t. is_free (without_claims t (wounded t id needs)) id needs) c.self.view_is)
    ∙ sym (opens-is c.self.inside.claims id needs c.self.invariant.0.order) ∙ ap not (c.is_undisputed.ensures.lets yes)
