use Rattle.std.proofs.Common.{◌∙◌, sym, ap, subst, List, ℕ}
use Rattle.units.specs.Lists.{gather}
use Rattle.units.specs.Ids.{Id}
use Rattle.rows.specs.RowTable.{RowTable, decided_row, IsEarliest}
use Rattle.rows.proofs.Stamps.{gather-decided}
use Rattle.rows.proofs.rows.Rows.earliest_decided.Goals as goal

pub returns : goal.returns
returns c =
    subst (λ (l : List (Id × ℕ)). IsEarliest l c.earliest_decided.result)
    (sym (gather-decided c.self.inside.rows c.self.inside.locks) ∙ ap (λ (t : RowTable). gather decided_row t.rows) c.self.view_is)
    c.earliest_decided.ensures
