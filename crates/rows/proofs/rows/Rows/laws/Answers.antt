use Rattle.std.proofs.Common.{◌≤◌, ◌∙◌, ℕ, sym, ap, subst, length}
use Rattle.units.specs.Limits.{most_rows}
use Rattle.units.specs.ById.{IsById}
use Rattle.protocol.specs.Rows.{Row}
use Rattle.rows.specs.RowTable.{RowTable}
use Rattle.rows.proofs.Ties.{by_id-paired}
use Rattle.rows.proofs.Steps.{length-paired}
use Rattle.rows.proofs.rows.Rows.laws.Goals as goal

pub returns-clause-few : goal.returns-clause-few
returns-clause-few c =
    subst (λ (n : ℕ). n ≤ most_rows) (sym (length-paired c.self.inside.rows c.self.inside.locks)
    ∙ ap (λ (t : RowTable). length t.rows) c.self.view_is) c.laws-2.ensures.few

pub returns-clause-order : goal.returns-clause-order
returns-clause-order c =
    subst (λ (t : RowTable). IsById (λ (r : Row). r.txn) t.rows) c.self.view_is (by_id-paired c.self.inside.rows c.self.inside.locks c.laws-2.ensures.order)
