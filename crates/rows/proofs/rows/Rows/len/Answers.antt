use Rattle.std.proofs.Common.{◌∙◌, sym, ap, length}
use Rattle.rows.specs.RowTable.{RowTable}
use Rattle.rows.proofs.Steps.{length-paired}
use Rattle.rows.proofs.rows.Rows.len.Goals as goal

pub returns : goal.returns
returns c =
    c.len.ensures ∙ sym (length-paired c.self.inside.rows c.self.inside.locks) ∙ ap (λ (t : RowTable). length t.rows) c.self.view_is
