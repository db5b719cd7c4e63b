use Rattle.std.proofs.Common.{◌∙◌, sym, subst}
use Rattle.protocol.specs.Rows.{held_in}
use Rattle.memory.specs.Kept.{start_of, IsPlanned}
use Rattle.memory.proofs.States.{planned-by}
use Rattle.participant.proofs.Planned.{fresh_stands, fresh_gone}
use Rattle.participant.proofs.prepares.prepare_fresh.Goals as goal

pub returns-then-not-reads_stand-clause-planned : goal.returns-then-not-reads_stand-clause-planned
returns-then-not-reads_stand-clause-planned c =
    let k = c.args.state.now in
    let m = c.args.prepare.now in
    planned-by k _ _ c.refuse.result
    (fresh_gone (start_of k) c.args.now.now.earliest m (held_in k.memory.rows m.txn)
    (sym c.reads_stand.ensures ∙ c.if-not-reads_stand.true)) c.refuse.ensures.plan c.refuse.ensures.memory

pub returns-then-opens_writes-clause-planned : goal.returns-then-opens_writes-clause-planned
returns-then-opens_writes-clause-planned c =
    let k = c.args.state.now in
    let m = c.args.prepare.now in
    subst (λ q. IsPlanned k q c.promise_now.result)
    (sym (fresh_stands (start_of k) c.args.now.now.earliest m (held_in k.memory.rows m.txn)
    (sym c.reads_stand.ensures ∙ c.if-not-reads_stand.false))) c.promise_now.ensures.planned

pub returns-else-opens_writes-clause-planned : goal.returns-else-opens_writes-clause-planned
returns-else-opens_writes-clause-planned c =
    let k = c.args.state.now in
    let m = c.args.prepare.now in
    subst (λ q. IsPlanned k q c.wait.result)
    (sym (fresh_stands (start_of k) c.args.now.now.earliest m (held_in k.memory.rows m.txn)
    (sym c.reads_stand.ensures ∙ c.if-not-reads_stand.false))) (c.wait.ensures.planned c.args.now.now.earliest)
