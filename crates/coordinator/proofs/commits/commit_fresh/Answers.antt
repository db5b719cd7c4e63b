use Rattle.std.proofs.Common.{◌+◌, ◌<◌, ◌≤◌, ◌^◌, ◌∙◌, sym, subst}
use Rattle.protocol.specs.Rows.{held_in}
use Rattle.memory.specs.Kept.{start_of, IsPlanned}
use Rattle.memory.proofs.States.{planned-by, refused-by}
use Rattle.coordinator.proofs.Granting.{fresh_late, fresh_early, fresh_gone}
use Rattle.coordinator.proofs.commits.commit_fresh.Goals as goal

pub returns-then-not-reads_stand-clause-planned : goal.returns-then-not-reads_stand-clause-planned
returns-then-not-reads_stand-clause-planned c =
    let k = c.args.state.now in
    let m = c.args.commit.now in
    planned-by k _ _ c.aborts.result
    (fresh_gone (start_of k) c.args.now.now.latest m (held_in k.memory.rows m.txn)
    (sym c.reads_stand.ensures ∙ c.if-not-reads_stand.true)) c.aborts.ensures.plan c.aborts.ensures.memory

pub returns-in_default-clause-planned : goal.returns-in_default-clause-planned
returns-in_default-clause-planned c =
    let k = c.args.state.now in
    let m = c.args.commit.now in
    refused-by _ _
    (fresh_late (start_of k) c.args.now.now.latest m (held_in k.memory.rows m.txn)
    (sym c.reads_stand.ensures ∙ c.if-not-reads_stand.false)
    (subst (λ n. 2 ^ 62 ≤ n + 1) c.latest.ensures.value c.in_default.ensures.1))

pub returns-then-opens_writes-clause-planned : goal.returns-then-opens_writes-clause-planned
returns-then-opens_writes-clause-planned c =
    let k = c.args.state.now in
    let m = c.args.commit.now in
    subst (λ q. IsPlanned k q c.grant_now.result)
    (sym (fresh_early (start_of k) c.args.now.now.latest m (held_in k.memory.rows m.txn)
    (sym c.reads_stand.ensures ∙ c.if-not-reads_stand.false)
    (subst (λ n. n + 1 < 2 ^ 62) c.latest.ensures.value c.in-Ok.ensures.1))) c.grant_now.ensures.planned

pub returns-else-opens_writes-clause-planned : goal.returns-else-opens_writes-clause-planned
returns-else-opens_writes-clause-planned c =
    let k = c.args.state.now in
    let m = c.args.commit.now in
    subst (λ q. IsPlanned k q c.wait.result)
    (sym (fresh_early (start_of k) c.args.now.now.latest m (held_in k.memory.rows m.txn)
    (sym c.reads_stand.ensures ∙ c.if-not-reads_stand.false)
    (subst (λ n. n + 1 < 2 ^ 62) c.latest.ensures.value c.in-Ok.ensures.1))) c.wait.ensures.planned
