-- What an input does to a core.
use Rattle.std.specs.Prelude.{◌≡◌, ◌≢◌, ◌⊎◌, ℕ, ◌+◌, ◌<◌, ◌≤◌, ◌^◌, Bool, true, false, IsTrue, IsFalse, List, Option, Some, None, Result, IfOk, IfErr, OnOk}
use Rattle.units.specs.declared.fault.Fault.{Fault}
use Rattle.units.specs.declared.fault.Fault.TheVariants.{Memory as WantsMemory, Device, Stopped, TimeSpent}
use Rattle.units.specs.declared.setup.Setup.{Setup}
use Rattle.disk.specs.declared.plan.FailurePlan.{FailurePlan}
use Rattle.disk.specs.declared.plan.FailurePlan.TheVariants.{Never, AfterWrite}
use Rattle.disk.specs.File.{File, surface}
use Rattle.disk.specs.Image.{MayLeave}
use Rattle.disk.specs.Moments.{LeavesOnly}
use Rattle.record.specs.declared.record.Record.{Record}
use Rattle.record.specs.Facts.{Facts}
use Rattle.truetime.specs.Interval.{Interval}
use Rattle.message.specs.declared.message.Envelope.{Envelope}
use Rattle.message.specs.declared.message.Input.{Input}
use Rattle.protocol.specs.Rows.{Memory}
use Rattle.protocol.specs.Step.{Stepped, Refuses, Does, step, facts_after}
use Rattle.gatelog.specs.Frames.{next_gate, IsFull}
use Rattle.shard.specs.Logs.{records_in, and_logged, KeepsRecords, HoldsOldOrWith, BeginsAsBefore}
use Rattle.shard.specs.Armed.{FailsIn, GoesPast, HasPlace}

-- what a contract sees of a core: its disk, where its log ends there, the number of its log's next free slot, whether its device
-- failed, what it was told when it was opened, the facts of its log, and what it keeps in memory beside them
pub record CoreView (D : Type 0) : Type 0 where
  pub disk : D
  pub gate : ℕ
  pub slot : ℕ
  pub stopped : Bool
  pub setup : Setup
  pub facts : Facts
  pub memory : Memory

-- the record that a step logs
abbrev pub record_of : Stepped → Option Record
record_of (Refuses fault) = None
record_of (Does logged memory outbox) = logged

-- the step is done: the facts are those before it with its record, the memory is its memory, and its messages are put out
abbrev pub IsDone : {D : Type 0} → Stepped → CoreView D → CoreView D → List Envelope → Type 0
IsDone (Refuses fault) old new out = ⊥
IsDone (Does logged memory outbox) old new out = (new.facts ≡ facts_after old.facts logged) × (new.memory ≡ memory) × (out ≡ outbox)

-- what the step of a core is
abbrev pub step_of : {D : Type 0} → CoreView D → Interval → Input → Stepped
step_of core now i = step core.setup core.facts core.memory now i

-- the log has no room for the record
abbrev pub IsLogFull : ℕ → Option Record → Type 0
IsLogFull gate None = ⊥
IsLogFull gate (Some r) = IsFull gate r

-- there is a record, and the log has room for it
abbrev pub IsTried : ℕ → Option Record → Type 0
IsTried gate None = ⊥
IsTried gate (Some r) = HasPlace gate (Some r)

-- where the log ends behind the record, where there is one
abbrev pub gate_behind : ℕ → Option Record → ℕ
gate_behind gate None = gate
gate_behind gate (Some r) = next_gate gate r

-- why a record is not logged: a growth was refused, the log would pass its limit, or the device failed
abbrev pub IsLogCause : Fault → Type 0 → Type 0 → Type 0
IsLogCause fault full failed = (fault ≡ WantsMemory) ⊎ (((fault ≡ TimeSpent) × full) ⊎ ((fault ≡ Device) × failed))

-- Why an input is refused. A stopped core refuses all. Else it is the step's own refusal; or, where the step would be
-- done, why its record is not logged.
abbrev pub IsCause : Bool → Stepped → Fault → Type 0 → Type 0 → Type 0
IsCause true step fault full failed = fault ≡ Stopped
IsCause false (Refuses why) fault full failed = fault ≡ why
IsCause false (Does logged memory outbox) fault full failed = IsLogCause fault full failed

-- what stands after a refusal: all as it was, but that a device's failure stops the core
abbrev pub StandsAsBefore : {D : Type 0} → (D → File) → CoreView D → CoreView D → Fault → Type 0
StandsAsBefore file old new fault =
    (new.facts ≡ old.facts) × (new.memory ≡ old.memory) × ((fault ≡ Device) ⊎ ((new.stopped ≡ old.stopped) × (new.gate ≡ old.gate)
    × (file new.disk ≡ file old.disk)))

module _ {D : Type 0} (keeps obeys : Type 0) (file : D → File) (clock : D → ℕ) (since : D → ℕ → List ℕ → Type 0) (failures : D → ℕ)
    (plan : D → FailurePlan) where
  -- what holds of a core's disk over a call that logs a record, or nothing, whatever it answers
  pub record HasWritten {T : Type 0} (old new : CoreView D) (logged : Option Record) (result : Result T Fault) : Type 0 where
    pub setup : new.setup ≡ old.setup
    pub slot : new.slot ≡ old.slot
    pub failures_stay : failures old.disk ≤ failures new.disk
    -- a crash at any moment since the start leaves the old records, or these with the new one
    pub any_moment : IsFalse old.stopped → keeps →
        LeavesOnly clock since old.disk new.disk (HoldsOldOrWith (records_in (surface (file old.disk)).seen) logged)
    -- and the log begins where it began
    pub begins : IsFalse old.stopped → keeps → LeavesOnly clock since old.disk new.disk (BeginsAsBefore (surface (file old.disk)))
    -- from then on every crash leaves the records with the new one, and a read gives them
    pub durable : OnOk result (keeps → KeepsRecords (surface (file new.disk)) (and_logged (records_in (surface (file old.disk)).seen) logged))
    pub read : OnOk result (keeps → records_in (surface (file new.disk)).seen ≡ and_logged (records_in (surface (file old.disk)).seen) logged)
    pub gate : OnOk result ((new.gate ≡ gate_behind old.gate logged) × (new.gate ≤ old.gate + 2 ^ 20 + 5))
    pub place : OnOk result (HasPlace old.gate logged)
    pub kept : IfErr result (StandsAsBefore file old new)
    -- it is refused since the device failed in the append of a record; else a crash at any moment since the start leaves only what it might
    -- have left before
    pub tried : IfErr result (λ fault. ((fault ≡ Device) × IsTried old.gate logged)
        ⊎ ((fault ≢ Device) × LeavesOnly clock since old.disk new.disk (MayLeave (surface (file old.disk)))))
    -- with no call armed the device does not fail
    pub planned : obeys → plan old.disk ≡ Never → (plan new.disk ≡ Never) × IfErr result (λ fault. fault ≢ Device)
    -- with a call armed, counted from 0: it fails where it is one of the append's, and leaves this
    pub armed : (call : ℕ) → IsFalse old.stopped → obeys → keeps → plan old.disk ≡ AfterWrite call →
        OnOk result (GoesPast call logged) × IfErr result (FailsIn call old.gate (records_in (surface (file old.disk)).seen) logged (file new.disk))

  -- an input was taken, or refused
  pub record HasStepped (old new : CoreView D) (step : Stepped) (result : Result (List Envelope) Fault) : Type 0 where
    pub written : HasWritten old new (record_of step) result
    pub done : IfOk result (λ out. IsFalse old.stopped × IsFalse new.stopped × IsDone step old new out)
    pub cause : IfErr result (λ fault. IsCause old.stopped step fault (IsLogFull old.gate (record_of step))
        ((failures old.disk < failures new.disk) × IsTrue new.stopped))
