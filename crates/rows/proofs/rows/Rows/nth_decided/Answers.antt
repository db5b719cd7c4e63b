use Rattle.std.proofs.Common.{◌∙◌, sym, ap, List, ℕ, slice_get}
use Rattle.units.specs.Ids.{Id}
use Rattle.rows.specs.RowTable.{RowTable, nth_decided}
use Rattle.rows.proofs.Stamps.{gather-decided}
use Rattle.rows.proofs.rows.Rows.nth_decided.Goals as goal

pub returns : goal.returns
returns c =
    c.nth_decided.ensures ∙ ap (λ (l : List (Id × ℕ)). slice_get l c.args.n) (sym (gather-decided c.self.inside.rows c.self.inside.locks))
    ∙ ap (λ (t : RowTable). nth_decided t.rows c.args.n) c.self.view_is
