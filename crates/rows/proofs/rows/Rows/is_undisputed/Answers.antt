use Rattle.std.proofs.Common.{◌∙◌, sym, ap, List}
use Rattle.units.specs.Locks.{Claim, exclusive, is_free, wounded}
use Rattle.protocol.specs.Rows.{claims, without_rows}
use Rattle.locks.specs.Table.{without_claims}
use Rattle.rows.specs.RowTable.{RowTable, paired}
use Rattle.rows.proofs.Steps.{claims-without_rows}
use Rattle.rows.proofs.rows.Rows.is_undisputed.Goals as goal

pub returns-clause-opens : goal.returns-clause-opens
returns-clause-opens c =
    let id = c.args.txn in
    let needs = exclusive c.args.writes.now in
    let seen = paired c.self.inside.rows c.self.inside.locks in
    λ yes. sym (ap (λ (t : RowTable). is_free (claims (without_rows t.rows (wounded (claims t.rows) id needs))) id needs) c.self.view_is)
    ∙ sym (ap (λ (t : List Claim). is_free t id needs) (sym (claims-without_rows seen (wounded (claims seen) id needs))))
    ∙ sym (ap (λ (t : List Claim). is_free (without_claims t (wounded t id needs)) id needs) (sym c.self.invariant))
    ∙ c.is_undisputed.ensures.opens yes
