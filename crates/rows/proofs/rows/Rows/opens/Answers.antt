use Rattle.std.proofs.Common.{◌∙◌, sym, ap, List}
use Rattle.units.specs.Locks.{Claim, is_free, wounded}
use Rattle.protocol.specs.Rows.{claims, without_rows}
use Rattle.locks.specs.Table.{without_claims}
use Rattle.rows.specs.RowTable.{RowTable, paired}
use Rattle.rows.proofs.Steps.{claims-without_rows}
use Rattle.rows.proofs.rows.Rows.opens.Goals as goal

pub returns : goal.returns
returns c =
    let id = c.args.txn in
    let needs = c.args.needs.now in
    let seen = paired c.self.inside.rows c.self.inside.locks in
    c.opens.ensures ∙ ap (λ (t : List Claim). is_free (without_claims t (wounded t id needs)) id needs) (sym c.self.invariant)
    ∙ ap (λ (t : List Claim). is_free t id needs) (sym (claims-without_rows seen (wounded (claims seen) id needs)))
    ∙ ap (λ (t : RowTable). is_free (claims (without_rows t.rows (wounded (claims t.rows) id needs))) id needs) c.self.view_is
