use Rattle.std.proofs.Common.{◌≡◌, subst, Some, None}
use Rattle.std.specs.Option.{MatchOption}
use Rattle.protocol.specs.Rows.{find_row, held_in}
use Rattle.rows.specs.CodeRows.{phase_of}
use Rattle.rows.specs.RowTable.{RowTable}
use Rattle.rows.proofs.Steps.{matched}
use Rattle.rows.proofs.rows.Rows.find.Goals as goal

pub returns : goal.returns
returns c =
    let t = c.args.txn in
    subst (λ (s : RowTable). MatchOption c.find.result (find_row s.rows t ≡ None) (λ row. find_row s.rows t ≡
    Some (record { txn = t; held = held_in s.rows t; phase = phase_of row.now })))
    c.self.view_is (matched c.find.result c.self.inside.rows c.self.inside.locks t c.find.ensures)
