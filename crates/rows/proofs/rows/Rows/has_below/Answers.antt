use Rattle.std.proofs.Common.{◌∙◌, ap}
use Rattle.std.specs.List.{list_any}
use Rattle.units.specs.Ids.{older}
use Rattle.rows.specs.RowTable.{RowTable}
use Rattle.rows.proofs.Steps.{any-paired}
use Rattle.rows.proofs.rows.Rows.has_below.Goals as goal

pub returns : goal.returns
returns c =
    c.has_below.ensures ∙ any-paired c.args.below c.self.inside.rows c.self.inside.locks
    ∙ ap (λ (t : RowTable). list_any (λ r. older r.txn c.args.below) t.rows) c.self.view_is
