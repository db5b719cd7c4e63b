use Rattle.std.proofs.Common.{◌∙◌, Err, refl, sym, subst}
use Rattle.units.specs.declared.fault.Fault.{Fault}
use Rattle.memory.specs.wait.CommitRequest.{CommitRequest}
use Rattle.memory.specs.Kept.{start_of}
use Rattle.memory.specs.Standings.{MakesPlan}
use Rattle.memory.proofs.States.{planned-by, refused-by}
use Rattle.coordinator.specs.Granted.{waits_commit}
use Rattle.coordinator.proofs.Granting.{wait_crowded, wait_roomy}
use Rattle.coordinator.proofs.commits.wait.Goals as goal

pub returns-then-is_crowded-clause-planned : goal.returns-then-is_crowded-clause-planned
returns-then-is_crowded-clause-planned c =
    refused-by _ _ (wait_crowded (start_of c.args.state.now) c.args.now.now.latest c.args.commit.now c.requires.shut
    (sym c.is_crowded.ensures.crowded ∙ c.if-is_crowded.true))

pub returns-in_default-clause-planned : goal.returns-in_default-clause-planned
returns-in_default-clause-planned c =
    let k = c.args.state.now in
    planned-by k _ _ (Err Fault.Memory) (wait_roomy (start_of k) c.args.now.now.latest c.args.commit.now c.requires.shut
    (sym c.is_crowded.ensures.crowded ∙ c.if-is_crowded.false)) tt refl

pub returns-clause-planned : goal.returns-clause-planned
returns-clause-planned c =
    let k = c.args.state.now in
    let m = c.args.commit.now in
    planned-by k _ _ c.wait_with.result
    (wait_roomy (start_of k) c.args.now.now.latest m c.requires.shut (sym c.is_crowded.ensures.crowded ∙ c.if-is_crowded.false))
    (subst (λ (r : CommitRequest). MakesPlan k (waits_commit (start_of k) m.txn r) c.wait_with.result) c.in-Ok.ensures.request
    c.wait_with.ensures.plan) c.wait_with.ensures.memory
