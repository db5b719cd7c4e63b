use Rattle.std.proofs.Common.{◌∙◌, ap, Some, None}
use Rattle.rows.specs.CodeRows.{is_reading}
use Rattle.rows.specs.RowTable.{RowTable, has_phase}
use Rattle.rows.proofs.Steps.{tested}
use Rattle.rows.proofs.rows.Rows.is_reading.Goals as goal

pub returns-in-Some : goal.returns-in-Some
returns-in-Some c =
    c.is_reading.ensures ∙ tested is_reading (Some c.in-Some.row.now) c.self.inside.rows c.self.inside.locks c.args.txn c.in-Some.ensures
    ∙ ap (λ (t : RowTable). has_phase is_reading t.rows c.args.txn) c.self.view_is

pub returns-in-None : goal.returns-in-None
returns-in-None c =
    tested is_reading None c.self.inside.rows c.self.inside.locks c.args.txn c.in-None.ensures
    ∙ ap (λ (t : RowTable). has_phase is_reading t.rows c.args.txn) c.self.view_is
