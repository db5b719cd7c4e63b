use Rattle.std.proofs.Common.{◌∙◌, sym, ap, List, ℕ, slice_get}
use Rattle.units.specs.Ids.{Id}
use Rattle.rows.specs.RowTable.{RowTable, nth_prepared}
use Rattle.rows.proofs.Stamps.{gather-prepared}
use Rattle.rows.proofs.rows.Rows.nth_prepared.Goals as goal

pub returns : goal.returns
returns c =
    c.nth_prepared.ensures ∙ ap (λ (l : List (Id × ℕ)). slice_get l c.args.n) (sym (gather-prepared c.self.inside.rows c.self.inside.locks))
    ∙ ap (λ (t : RowTable). nth_prepared t.rows c.args.n) c.self.view_is
