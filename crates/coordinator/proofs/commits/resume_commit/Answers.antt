use Rattle.std.proofs.Common.{◌≡◌, List, [], Err, refl, sym, subst}
use Rattle.units.specs.Ids.{Id}
use Rattle.units.specs.Locks.{exclusive}
use Rattle.units.specs.declared.fault.Fault.{Fault}
use Rattle.memory.specs.wait.CommitRequest.{CommitRequest}
use Rattle.protocol.specs.Plan.{in_way}
use Rattle.memory.specs.Kept.{start_of}
use Rattle.memory.proofs.States.{planned-by, refused-by}
use Rattle.coordinator.specs.ByMessage.{MakesGranted}
use Rattle.coordinator.proofs.Granting.{granted_in_time, granted_late}
use Rattle.coordinator.proofs.commits.resume_commit.Goals as goal

pub returns-in_default-clause-planned : goal.returns-in_default-clause-planned
returns-in_default-clause-planned c =
    refused-by _ _ (granted_late (start_of c.args.state.now) [] c.args.txn c.args.request.now c.in_default.ensures.1)

pub returns-in_default-copied-clause-planned : goal.returns-in_default-copied-clause-planned
returns-in_default-copied-clause-planned c =
    let k = c.args.state.now in
    planned-by k _ _ (Err Fault.Memory) (granted_in_time (start_of k) [] c.args.txn c.in-Ok.at c.args.request.now c.in-Ok.ensures) tt refl

pub returns-clause-planned : goal.returns-clause-planned
returns-clause-planned c =
    let k = c.args.state.now in
    let t = c.args.txn in
    let r = c.args.request.now in
    let told = c.in-Ok-copied.ensures in
    let same : c.in-Ok-copied.copy ≡ r =
    λ i. record { latest = told.told.0 i; parts = told.told.1 i; reads = told.reads i; writes = told.writes i } in
    planned-by k _ _ c.granted.result (granted_in_time (start_of k) [] t c.in-Ok.at r c.in-Ok.ensures)
    (subst (λ (ended : List Id). MakesGranted k ended t c.in-Ok.at r c.granted.result) (sym c.requires.1)
    (subst (λ (q : CommitRequest). MakesGranted k (in_way (start_of k) t (exclusive q.writes)) t c.in-Ok.at q c.granted.result) same
    c.granted.ensures.plan)) c.granted.ensures.memory
