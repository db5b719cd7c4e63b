-- What a participant plans for each message, by how its transaction stands.
use Rattle.std.specs.Prelude.{ℕ, List, [], Result}
use Rattle.units.specs.Ids.{Id}
use Rattle.units.specs.Keys.{Bytes}
use Rattle.units.specs.declared.fault.Fault.{Fault}
use Rattle.message.specs.declared.message.Outcome.{Outcome}
use Rattle.message.specs.declared.message.Prepare.{Prepare}
use Rattle.message.specs.declared.message.Read.{Read}
use Rattle.memory.specs.wait.PrepareRequest.{PrepareRequest}
use Rattle.protocol.specs.Rows.{Standing, WaitsPrepare}
use Rattle.protocol.specs.Cells.{plan_asks, plan_cell, plan_promise}
use Rattle.protocol.specs.Table.{nudge_cell, outcome_cell, prepare_cell, read_cell}
use Rattle.memory.specs.Kept.{Kept, start_of, IsPlanned}
use Rattle.memory.specs.Standings.{MakesPlan}
use Rattle.memory.specs.declared.plan.Step.{Step}
use Rattle.participant.specs.Asks.{granted_read, promised_by}

abbrev pub PlansRead : Kept → Read → Standing → Result Step Fault → Type 0
PlansRead k m standing result = IsPlanned k (plan_cell (start_of k) (read_cell (start_of k) m.txn m.key standing)) result

abbrev pub PlansPrepare : Kept → ℕ → Prepare → Standing → Result Step Fault → Type 0
PlansPrepare k earliest m standing result = IsPlanned k (plan_cell (start_of k) (prepare_cell (start_of k) earliest m standing)) result

-- the reads still stand
abbrev pub PlansPrepareNow : Kept → ℕ → Prepare → Result Step Fault → Type 0
PlansPrepareNow k earliest m result = IsPlanned k (plan_asks (start_of k) earliest m.txn (WaitsPrepare m.coordinator m.reads.keys m.writes)) result

abbrev pub PlansOutcome : Kept → Outcome → Standing → Result Step Fault → Type 0
PlansOutcome k m standing result = IsPlanned k (plan_cell (start_of k) (outcome_cell m.from m.txn m.outcome standing)) result

abbrev pub PlansNudge : Kept → Id → Standing → Result Step Fault → Type 0
PlansNudge k t standing result = IsPlanned k (plan_cell (start_of k) (nudge_cell (start_of k) t standing)) result

-- a request whose locks are granted
abbrev pub PlansPromise : Kept → ℕ → Id → PrepareRequest → Result Step Fault → Type 0
PlansPromise k earliest t r result = IsPlanned k (plan_promise (start_of k) [] earliest t r.coordinator r.reads r.writes) result

-- a shared lock is granted, and the read answered
abbrev pub MakesGrantedRead : Kept → List Id → Id → Bytes → Result Step Fault → Type 0
MakesGrantedRead k ended t key result = MakesPlan k (granted_read (start_of k) ended t key) result

-- the promise of a request, once its locks are granted
abbrev pub MakesPromise : Kept → List Id → Id → ℕ → PrepareRequest → Result Step Fault → Type 0
MakesPromise k ended t at r result = MakesPlan k (promised_by (start_of k) ended t at r.coordinator r.reads r.writes) result
