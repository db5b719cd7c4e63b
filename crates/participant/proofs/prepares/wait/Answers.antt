use Rattle.std.proofs.Common.{◌∙◌, [], None, Err, refl, sym, subst}
use Rattle.units.specs.Locks.{exclusive}
use Rattle.units.specs.declared.fault.Fault.{Fault}
use Rattle.memory.specs.wait.PrepareRequest.{PrepareRequest}
use Rattle.protocol.specs.Rows.{WaitsPrepare}
use Rattle.protocol.specs.Plan.{in_way, puts}
use Rattle.memory.specs.Kept.{start_of}
use Rattle.memory.specs.Standings.{MakesPlan}
use Rattle.memory.proofs.States.{planned-by, refused-by}
use Rattle.participant.proofs.Planned.{wait_crowded, wait_roomy}
use Rattle.participant.proofs.prepares.wait.Goals as goal

pub returns-then-is_crowded-clause-planned : goal.returns-then-is_crowded-clause-planned
returns-then-is_crowded-clause-planned c = λ earliest.
    refused-by _ _ (wait_crowded (start_of c.args.state.now) earliest c.args.prepare.now c.requires.opens
    (sym c.is_crowded.ensures.crowded ∙ c.if-is_crowded.true))

pub returns-in_default-clause-planned : goal.returns-in_default-clause-planned
returns-in_default-clause-planned c = λ earliest.
    let k = c.args.state.now in
    planned-by k _ _ (Err Fault.Memory)
    (wait_roomy (start_of k) earliest c.args.prepare.now c.requires.opens (sym c.is_crowded.ensures.crowded ∙ c.if-is_crowded.false)) tt refl

pub returns-clause-planned : goal.returns-clause-planned
returns-clause-planned c = λ earliest.
    let k = c.args.state.now in
    let b = start_of k in
    let t = c.args.prepare.now.txn in
    planned-by k _ _ c.wait_with.result
    (wait_roomy b earliest c.args.prepare.now c.requires.opens (sym c.is_crowded.ensures.crowded ∙ c.if-is_crowded.false))
    (subst (λ (r : PrepareRequest). MakesPlan k (puts b (in_way b t (exclusive r.writes)) t [] (WaitsPrepare r.coordinator r.reads r.writes)
    None k.memory.last []) c.wait_with.result) c.in-Ok.ensures.request c.wait_with.ensures.plan) c.wait_with.ensures.memory
