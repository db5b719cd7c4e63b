use Rattle.std.proofs.Common.{◌∙◌, ap, sym}
use Rattle.units.specs.Ids.{has_id}
use Rattle.record.specs.Facts.{recorded}
use Rattle.record.specs.Records.{is_below}
use Rattle.protocol.specs.Rows.{held_in}
use Rattle.memory.specs.Kept.{Kept, start_of}
use Rattle.memory.specs.Standings.{row_by}
use Rattle.memory.proofs.States.{stands-retired, stands-row, stands-past, no_row, allows, tells}
use Rattle.memory.proofs.state.State.standing.Goals as goal

pub returns-then-is_retired-clause-standing : goal.returns-then-is_retired-clause-standing
returns-then-is_retired-clause-standing c =
    let t = c.args.txn in
    stands-retired (start_of c.args.self.now) t
    (ap (λ (k : Kept). is_below k.facts.retired t) (sym c.self.view_is) ∙ sym c.is_retired.ensures ∙ c.if-is_retired.true)

pub returns-in-Some-clause-standing : goal.returns-in-Some-clause-standing
returns-in-Some-clause-standing c =
    let k = c.args.self.now in
    stands-row (start_of k) c.args.txn _
    (ap (λ (k : Kept). is_below k.facts.retired c.args.txn) (sym c.self.view_is) ∙ sym c.is_retired.ensures ∙ c.if-is_retired.false) c.in-Some.ensures
    ∙ sym (c.by_row.ensures (held_in k.memory.rows c.args.txn))

pub returns-in-Some-clause-row : goal.returns-in-Some-clause-row
returns-in-Some-clause-row c =
    let t = c.args.txn in
    tells c.args.self.now.memory.rows t c.by_row.result
    (c.in-Some.ensures ∙ ap (row_by t) (sym (c.by_row.ensures (held_in c.args.self.now.memory.rows t))))

pub returns-in-Some-clause-allows : goal.returns-in-Some-clause-allows
returns-in-Some-clause-allows c =
    let t = c.args.txn in
    allows c.args.self.now.memory.rows t _ c.by_row.result
    (c.in-Some.ensures ∙ ap (row_by t) (sym (c.by_row.ensures (held_in c.args.self.now.memory.rows t))))

pub returns-in-None-clause-standing : goal.returns-in-None-clause-standing
returns-in-None-clause-standing c =
    let t = c.args.txn in
    stands-past (start_of c.args.self.now) t _ c.has.result
    (ap (λ (k : Kept). is_below k.facts.retired t) (sym c.self.view_is) ∙ sym c.is_retired.ensures ∙ c.if-is_retired.false) c.in-None.ensures
    (ap (λ (k : Kept). recorded k.facts t) (sym c.self.view_is) ∙ sym c.status.ensures)
    (ap (λ (k : Kept). has_id k.memory.ended t) (sym c.self.view_is) ∙ sym c.has.ensures)
    ∙ sym (c.by_records.ensures (held_in c.args.self.now.memory.rows t))

pub returns-in-None-clause-row : goal.returns-in-None-clause-row
returns-in-None-clause-row c =
    let t = c.args.txn in
    tells c.args.self.now.memory.rows t c.by_records.result
    (c.in-None.ensures ∙ sym (no_row t _ c.has.result)
    ∙ ap (row_by t) (sym (c.by_records.ensures (held_in c.args.self.now.memory.rows t))))

pub returns-in-None-clause-allows : goal.returns-in-None-clause-allows
returns-in-None-clause-allows c =
    let t = c.args.txn in
    allows c.args.self.now.memory.rows t _ c.by_records.result
    (c.in-None.ensures ∙ sym (no_row t _ c.has.result)
    ∙ ap (row_by t) (sym (c.by_records.ensures (held_in c.args.self.now.memory.rows t))))
