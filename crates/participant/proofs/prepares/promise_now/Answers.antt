use Rattle.std.proofs.Common.{◌∙◌, Err, refl, sym, subst}
use Rattle.units.specs.Locks.{exclusive}
use Rattle.units.specs.declared.fault.Fault.{Fault}
use Rattle.memory.specs.wait.PrepareRequest.{PrepareRequest}
use Rattle.protocol.specs.Plan.{in_way}
use Rattle.memory.specs.Kept.{start_of}
use Rattle.memory.proofs.States.{planned-by, refused-by}
use Rattle.participant.specs.ByMessage.{MakesPromise}
use Rattle.participant.proofs.Planned.{now_late, now_crowded, now_promised}
use Rattle.participant.proofs.prepares.promise_now.Goals as goal

pub returns-in-Err-clause-planned : goal.returns-in-Err-clause-planned
returns-in-Err-clause-planned c =
    refused-by _ _ (now_late (start_of c.args.state.now) c.args.now.now.earliest c.args.prepare.now c.requires.opens c.in-Err.ensures.1)

pub returns-then-is_crowded-clause-planned : goal.returns-then-is_crowded-clause-planned
returns-then-is_crowded-clause-planned c =
    refused-by _ _ (now_crowded (start_of c.args.state.now) c.args.now.now.earliest c.args.prepare.now c.in-Ok.at c.requires.opens
    c.in-Ok.ensures.0 c.in-Ok.ensures.1 (sym c.is_crowded.ensures.crowded ∙ c.if-is_crowded.true))

pub returns-in_default-clause-planned : goal.returns-in_default-clause-planned
returns-in_default-clause-planned c =
    let k = c.args.state.now in
    planned-by k _ _ (Err Fault.Memory)
    (now_promised (start_of k) c.args.now.now.earliest c.args.prepare.now c.in-Ok.at c.requires.opens c.in-Ok.ensures.0
    c.in-Ok.ensures.1 (sym c.is_crowded.ensures.crowded ∙ c.if-is_crowded.false)) tt refl

pub returns-clause-planned : goal.returns-clause-planned
returns-clause-planned c =
    let k = c.args.state.now in
    let m = c.args.prepare.now in
    planned-by k _ _ c.promise.result
    (now_promised (start_of k) c.args.now.now.earliest m c.in-Ok.at c.requires.opens c.in-Ok.ensures.0
    c.in-Ok.ensures.1 (sym c.is_crowded.ensures.crowded ∙ c.if-is_crowded.false))
    (subst (λ (r : PrepareRequest). MakesPromise k (in_way (start_of k) m.txn (exclusive r.writes)) m.txn c.in-Ok.at r c.promise.result)
    c.in-Ok-requested.ensures.request c.promise.ensures.plan) c.promise.ensures.memory
