use Rattle.units.specs.Limits.{most_rows}
use Rattle.std.proofs.Common.{◌∙◌, sym, ap, nat_le, length}
use Rattle.rows.specs.RowTable.{RowTable}
use Rattle.rows.proofs.Steps.{length-paired}
use Rattle.rows.proofs.rows.Rows.is_full.Goals as goal

pub returns : goal.returns
returns c =
    ap (nat_le most_rows) (c.len.ensures ∙ sym (length-paired c.self.inside.rows c.self.inside.locks) ∙ ap (λ (t : RowTable). length t.rows) c.self.view_is)
