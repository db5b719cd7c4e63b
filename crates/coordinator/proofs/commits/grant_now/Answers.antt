use Rattle.std.proofs.Common.{◌∙◌, Err, refl, sym, subst}
use Rattle.units.specs.Locks.{exclusive}
use Rattle.units.specs.declared.fault.Fault.{Fault}
use Rattle.memory.specs.wait.CommitRequest.{CommitRequest}
use Rattle.protocol.specs.Plan.{in_way}
use Rattle.memory.specs.Kept.{start_of}
use Rattle.memory.proofs.States.{planned-by, refused-by}
use Rattle.coordinator.specs.ByMessage.{MakesGranted}
use Rattle.coordinator.specs.Granted.{IsDecidedAt, IsTooLate}
use Rattle.coordinator.proofs.Granting.{now_late, now_crowded, now_granted}
use Rattle.coordinator.proofs.commits.grant_now.Goals as goal

pub returns-in_default-clause-planned : goal.returns-in_default-clause-planned
returns-in_default-clause-planned c =
    let b = start_of c.args.state.now in
    let m = c.args.commit.now in
    refused-by _ _ (now_late b c.args.now.now.latest m c.requires.opens
    (subst (λ l. IsTooLate b l m.parts) c.latest.ensures.value c.in_default.ensures.1))

pub returns-then-is_crowded-clause-planned : goal.returns-then-is_crowded-clause-planned
returns-then-is_crowded-clause-planned c =
    let b = start_of c.args.state.now in
    let m = c.args.commit.now in
    refused-by _ _ (now_crowded b c.args.now.now.latest m c.in-Ok.at c.requires.opens
    (subst (λ l. IsDecidedAt b l m.parts c.in-Ok.at) c.latest.ensures.value c.in-Ok.ensures)
    (sym c.is_crowded.ensures.crowded ∙ c.if-is_crowded.true))

pub returns-in_default-requested-clause-planned : goal.returns-in_default-requested-clause-planned
returns-in_default-requested-clause-planned c =
    let k = c.args.state.now in
    let m = c.args.commit.now in
    planned-by k _ _ (Err Fault.Memory) (now_granted (start_of k) c.args.now.now.latest m c.in-Ok.at c.requires.opens
    (subst (λ l. IsDecidedAt (start_of k) l m.parts c.in-Ok.at) c.latest.ensures.value c.in-Ok.ensures)
    (sym c.is_crowded.ensures.crowded ∙ c.if-is_crowded.false)) tt refl

pub returns-clause-planned : goal.returns-clause-planned
returns-clause-planned c =
    let k = c.args.state.now in
    let m = c.args.commit.now in
    planned-by k _ _ c.granted.result (now_granted (start_of k) c.args.now.now.latest m c.in-Ok.at c.requires.opens
    (subst (λ l. IsDecidedAt (start_of k) l m.parts c.in-Ok.at) c.latest.ensures.value c.in-Ok.ensures)
    (sym c.is_crowded.ensures.crowded ∙ c.if-is_crowded.false))
    (subst (λ (r : CommitRequest). MakesGranted k (in_way (start_of k) m.txn (exclusive r.writes)) m.txn c.in-Ok.at r c.granted.result)
    c.in-Ok-requested.ensures.request c.granted.ensures.plan) c.granted.ensures.memory
