use Rattle.units.specs.Limits.{most_rows}
use Rattle.std.proofs.Common.{◌<◌, ◌∙◌, ℕ, sym, ap, subst, length, []}
use Rattle.protocol.specs.Rows.{Idle, find_row}
use Rattle.rows.specs.States.{ReadingState}
use Rattle.rows.specs.CodeRows.{has_txn, phase_of}
use Rattle.rows.specs.RowTable.{RowTable, put_row}
use Rattle.rows.specs.declared.row.Row.TheVariants.{Reading}
use Rattle.rows.proofs.Ties.{admitted}
use Rattle.rows.proofs.Steps.{absent_row, absent_claim, length-paired}
use Rattle.rows.proofs.rows.Rows.admit.Goals as goal

pub enter-requires : goal.enter-requires
enter-requires c =
    absent_claim c.self.inside.rows c.self.inside.locks c.args.txn c.self.invariant (ap (λ (t : RowTable). find_row t.rows c.args.txn) c.self.view_is
    ∙ c.requires.absent)

pub put-requires-clause-absent : goal.put-requires-clause-absent
put-requires-clause-absent c =
    ap (λ (s : ReadingState). has_txn c.self.inside.rows s.token.txn) c.new.ensures ∙ ap (has_txn c.self.inside.rows) c.in_ok-held.ensures.token
    ∙ absent_row c.self.inside.rows c.self.inside.locks c.args.txn (ap (λ (t : RowTable). find_row t.rows c.args.txn) c.self.view_is ∙ c.requires.absent)

pub put-requires-clause-room : goal.put-requires-clause-room
put-requires-clause-room c =
    subst (λ (n : ℕ). n < most_rows) (ap (λ (t : RowTable). length t.rows) (sym c.self.view_is)
    ∙ length-paired c.self.inside.rows c.self.inside.locks) c.requires.room

pub invariant_of-self-2 : goal.invariant_of-self-2
invariant_of-self-2 c =
    (admitted c.self.inside.rows c.put.new.self c.self.inside.locks c.enter.new.self c.args.txn (Reading c.new.result) c.self.invariant
    (ap (λ (s : ReadingState). s.token.txn) c.new.ensures ∙ c.in_ok-held.ensures.token) (ap (λ (s : ReadingState). phase_of (Reading s)) c.new.ensures)
    c.put.ensures c.in_ok-held.ensures.ok).tied

pub returns-clause-ok : goal.returns-clause-ok
returns-clause-ok c =
    (admitted c.self.inside.rows c.put.new.self c.self.inside.locks c.enter.new.self c.args.txn (Reading c.new.result) c.self.invariant
    (ap (λ (s : ReadingState). s.token.txn) c.new.ensures ∙ c.in_ok-held.ensures.token) (ap (λ (s : ReadingState). phase_of (Reading s)) c.new.ensures)
    c.put.ensures c.in_ok-held.ensures.ok).rows_are
    ∙ ap (λ (t : RowTable). put_row t.rows c.args.txn [] Idle) c.self.view_is
