use Rattle.std.proofs.Common.{◌≡◌, List, [], Err, refl, sym, subst}
use Rattle.units.specs.Ids.{Id}
use Rattle.units.specs.Locks.{exclusive}
use Rattle.units.specs.declared.fault.Fault.{Fault}
use Rattle.memory.specs.wait.PrepareRequest.{PrepareRequest}
use Rattle.protocol.specs.Plan.{in_way}
use Rattle.memory.specs.Kept.{start_of}
use Rattle.memory.proofs.States.{planned-by, refused-by}
use Rattle.participant.specs.ByMessage.{MakesPromise}
use Rattle.participant.proofs.Planned.{promise_late, promise_made}
use Rattle.participant.proofs.prepares.resume_prepare.Goals as goal

pub returns-in-Err-clause-planned : goal.returns-in-Err-clause-planned
returns-in-Err-clause-planned c =
    let r = c.args.request.now in
    refused-by _ _
    (promise_late (start_of c.args.state.now) [] c.args.now.now.earliest c.args.txn r.coordinator r.reads r.writes c.in-Err.ensures.1)

pub returns-in_default-clause-planned : goal.returns-in_default-clause-planned
returns-in_default-clause-planned c =
    let k = c.args.state.now in
    let r = c.args.request.now in
    planned-by k _ _ (Err Fault.Memory)
    (promise_made (start_of k) [] c.args.now.now.earliest c.args.txn r.coordinator r.reads r.writes c.in-Ok.at c.in-Ok.ensures.0 c.in-Ok.ensures.1) tt refl

pub returns-clause-planned : goal.returns-clause-planned
returns-clause-planned c =
    let k = c.args.state.now in
    let t = c.args.txn in
    let r = c.args.request.now in
    let told = c.in-Ok-copied.ensures in
    let same : c.in-Ok-copied.copy ≡ r = λ i. record { coordinator = told.coordinator i; reads = told.reads i; writes = told.writes i } in
    planned-by k _ _ c.promise.result
    (promise_made (start_of k) [] c.args.now.now.earliest t r.coordinator r.reads r.writes c.in-Ok.at c.in-Ok.ensures.0 c.in-Ok.ensures.1)
    (subst (λ (ended : List Id). MakesPromise k ended t c.in-Ok.at r c.promise.result) (sym c.requires.1)
    (subst (λ (q : PrepareRequest). MakesPromise k (in_way (start_of k) t (exclusive q.writes)) t c.in-Ok.at q c.promise.result) same
    c.promise.ensures.plan)) c.promise.ensures.memory
