use Rattle.std.proofs.Common.{◌∙◌, Ok, ap, sym, subst}
use Rattle.protocol.specs.Rows.{held_in}
use Rattle.memory.specs.Kept.{start_of, IsPlanned}
use Rattle.memory.proofs.States.{planned-by}
use Rattle.participant.proofs.Planned.{read_held, read_waits, read_asked}
use Rattle.participant.proofs.reads.read_row.Goals as goal

pub returns-then-holds-clause-planned : goal.returns-then-holds-clause-planned
returns-then-holds-clause-planned c =
    let k = c.args.state.now in
    planned-by k _ _ c.answer_held.result
    (read_held (start_of k) c.args.txn c.args.key.now (held_in k.memory.rows c.args.txn) c.args.waits (sym c.holds.ensures ∙ c.if-holds.true))
    c.answer_held.ensures.plan c.answer_held.ensures.memory

pub returns-then-waits-clause-planned : goal.returns-then-waits-clause-planned
returns-then-waits-clause-planned c =
    let k = c.args.state.now in
    read_waits (start_of k) c.args.txn c.args.key.now (held_in k.memory.rows c.args.txn) c.args.waits (sym c.holds.ensures ∙ c.if-holds.false) c.if-waits.true
    ∙ ap Ok (sym c.idles.ensures.plan)

pub returns-clause-planned : goal.returns-clause-planned
returns-clause-planned c =
    let k = c.args.state.now in
    subst (λ q. IsPlanned k q c.read_now.result)
    (sym (read_asked (start_of k) c.args.txn c.args.key.now (held_in k.memory.rows c.args.txn) c.args.waits
    (sym c.holds.ensures ∙ c.if-holds.false) c.if-waits.false))
    c.read_now.ensures.planned
