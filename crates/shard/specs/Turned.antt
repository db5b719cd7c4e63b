-- What a turnover of its log does to a core.
use Rattle.std.specs.Prelude.{◌≡◌, ◌≢◌, ◌⊎◌, ℕ, ◌+◌, ◌<◌, ◌≤◌, ◌^◌, nat_lt, IsTrue, IsFalse, Bool, true, false, List, get_or, Ok, Result, IfErr, OnOk}
use Rattle.units.specs.declared.fault.Fault.{Fault}
use Rattle.units.specs.declared.fault.Fault.TheVariants.{Memory as WantsMemory, Device, Stopped, TimeSpent}
use Rattle.disk.specs.declared.plan.FailurePlan.{FailurePlan}
use Rattle.disk.specs.declared.plan.FailurePlan.TheVariants.{Never, AfterWrite}
use Rattle.disk.specs.declared.plan.Fate.{Fate}
use Rattle.disk.specs.declared.plan.Fate.TheVariants.{Old}
use Rattle.disk.specs.File.{File, surface, crash_leaves}
use Rattle.disk.specs.Image.{Surface, MayLeave}
use Rattle.disk.specs.Moments.{LeavesOnly}
use Rattle.record.specs.declared.record.Record.{Record}
use Rattle.gatelog.specs.ArmedTurn.{is_read_turn, is_left_turn}
use Rattle.gatelog.specs.Crash.{Begins}
use Rattle.gatelog.specs.Frames.{end_from}
use Rattle.gatelog.specs.Slots.{Beginning, slot_count, begins_in}
use Rattle.ledger.specs.Keeps.{IsRegular}
use Rattle.ledger.specs.Turned.{turned}
use Rattle.shard.specs.Logs.{records_in, KeepsRecords}
use Rattle.shard.specs.On.{CoreView}

-- where the log begins behind a turnover: behind the old gate, with one slot more open
abbrev pub turned_to : ℕ → ℕ → Beginning
turned_to gate slot = record { at = gate + 1; slots = slot + 1 }

-- the image has the records that a read gave, where they began; or those of the new area, behind the old gate
abbrev pub IsOldOrTurned : Surface → ℕ → ℕ → List Record → List ℕ → Type 0
IsOldOrTurned disk gate slot new image =
    ((records_in image ≡ records_in disk.seen) × (begins_in image ≡ begins_in disk.seen))
    ⊎ ((records_in image ≡ Ok new) × (begins_in image ≡ turned_to gate slot))

-- the same, by a test: those of the new area where it holds
abbrev pub IsTurnedIf : Bool → Surface → ℕ → ℕ → List Record → List ℕ → Type 0
IsTurnedIf true disk gate slot new image = (records_in image ≡ Ok new) × (begins_in image ≡ turned_to gate slot)
IsTurnedIf false disk gate slot new image = (records_in image ≡ records_in disk.seen) × (begins_in image ≡ begins_in disk.seen)

-- The records behind a turnover whose call of this number fails, and where they begin: as a read gives them, and as a crash leaves them.
pub record AreArmedTurn (call : ℕ) (disk : Surface) (gate slot : ℕ) (new : List Record) (file : File) : Type 0 where
  pub read : IsTurnedIf (is_read_turn call) disk gate slot new (surface file).seen
  pub left : (fates : List Fate) → IsTurnedIf (is_left_turn call (get_or fates 0 Old)) disk gate slot new (crash_leaves fates file)

-- a slot is left, and the file has room for the new area
abbrev pub HasTurnPlace : ℕ → ℕ → List Record → Type 0
HasTurnPlace slot gate new = (slot < slot_count) × (end_from (gate + 1) new + 1 ≤ 2 ^ 40)

-- no slot is left, or the file has no room
abbrev pub HasNoTurnPlace : ℕ → ℕ → List Record → Type 0
HasNoTurnPlace slot gate new = (slot_count ≤ slot) ⊎ (2 ^ 40 < end_from (gate + 1) new + 1)

-- why a running core's log is not turned over: a growth was refused, there is no place, or the device failed
abbrev pub IsTurnCause : Fault → Type 0 → Type 0 → Type 0
IsTurnCause fault full failed = (fault ≡ WantsMemory) ⊎ (((fault ≡ TimeSpent) × full) ⊎ ((fault ≡ Device) × failed))

module _ {D : Type 0} (keeps obeys : Type 0) (file : D → File) (clock : D → ℕ) (since : D → ℕ → List ℕ → Type 0) (failures : D → ℕ)
    (plan : D → FailurePlan) where
  -- a core's log was turned over, or not: into the records of a renewed log, made of its facts
  pub record HasTurned {T : Type 0} (old new : CoreView D) (result : Result T Fault) : Type 0 where
    pub setup : new.setup ≡ old.setup
    pub facts : new.facts ≡ old.facts
    pub memory : new.memory ≡ old.memory
    pub regular : IsRegular old.facts
    pub failures_stay : failures old.disk ≤ failures new.disk
    -- a crash at any moment since the start leaves the old records where they began, or those of the renewed log
    pub any_moment : IsFalse old.stopped → keeps →
        LeavesOnly clock since old.disk new.disk (IsOldOrTurned (surface (file old.disk)) old.gate old.slot (turned old.facts))
    -- from then on every crash leaves those of the renewed log, behind the old gate, and a read gives them
    pub durable : OnOk result (keeps → KeepsRecords (surface (file new.disk)) (Ok (turned old.facts)))
    pub begins : OnOk result (keeps → Begins (surface (file new.disk)) (turned_to old.gate old.slot))
    pub read : OnOk result (keeps → records_in (surface (file new.disk)).seen ≡ Ok (turned old.facts))
    -- a read gives one of the two in any case
    pub read_either : IsFalse old.stopped → keeps →
        IsOldOrTurned (surface (file old.disk)) old.gate old.slot (turned old.facts) (surface (file new.disk)).seen
    pub done : OnOk result (IsFalse old.stopped × IsFalse new.stopped × (new.gate ≡ end_from (old.gate + 1) (turned old.facts))
        × (new.slot ≡ old.slot + 1))
    pub place : OnOk result (HasTurnPlace old.slot old.gate (turned old.facts))
    -- a stopped core does nothing
    pub cause : IfErr result (λ fault. ((fault ≡ Stopped) × IsTrue old.stopped × (new ≡ old))
        ⊎ (IsFalse old.stopped × IsTurnCause fault (HasNoTurnPlace old.slot old.gate (turned old.facts))
        ((failures old.disk < failures new.disk) × IsTrue new.stopped)))
    -- but for a device that failed, the log is as it was
    pub kept : IfErr result (λ fault. (fault ≡ Device) ⊎ ((new.stopped ≡ old.stopped) × (new.gate ≡ old.gate)
        × (new.slot ≡ old.slot) × (file new.disk ≡ file old.disk)))
    -- it is refused since the device failed in it; else a crash at any moment since the start leaves only what it might have left before
    pub tried : IfErr result (λ fault. ((fault ≡ Device) × HasTurnPlace old.slot old.gate (turned old.facts))
        ⊎ ((fault ≢ Device) × LeavesOnly clock since old.disk new.disk (MayLeave (surface (file old.disk)))))
    -- with no call armed the device does not fail
    pub planned : obeys → plan old.disk ≡ Never → (plan new.disk ≡ Never) × IfErr result (λ fault. fault ≢ Device)
    -- with a call armed, counted from 0: it fails where it is one of the turnover's five, and leaves this
    pub armed : (call : ℕ) → IsFalse old.stopped → obeys → keeps → plan old.disk ≡ AfterWrite call →
        OnOk result (IsFalse (nat_lt call 5)) × IfErr result (λ fault. fault ≡ Device → IsTrue (nat_lt call 5)
        × HasTurnPlace old.slot old.gate (turned old.facts)
        × AreArmedTurn call (surface (file old.disk)) old.gate old.slot (turned old.facts) (file new.disk))
