-- What an opening finds on a disk, and what it leaves.
use Rattle.std.specs.Prelude.{◌≡◌, ◌≢◌, ◌⊎◌, ℕ, ◌+◌, ◌<◌, ◌≤◌, ◌^◌, nat_lt, Bool, true, false, IsTrue, IsFalse, List, [], ◌∷◌, ◌++◌, Option, Some, None}
use Rattle.std.specs.Prelude.{Result, Ok, Err}
use Rattle.units.specs.declared.fault.Fault.{Fault}
use Rattle.units.specs.declared.fault.Fault.TheVariants.{Memory as WantsMemory, Device, TimeSpent, Damaged, NotALog, Stranger}
use Rattle.units.specs.declared.setup.Setup.{Setup}
use Rattle.disk.specs.declared.plan.FailurePlan.{FailurePlan}
use Rattle.disk.specs.declared.plan.FailurePlan.TheVariants.{Never, AfterWrite}
use Rattle.disk.specs.File.{File, surface}
use Rattle.disk.specs.Image.{Surface, MayLeave, after_sync}
use Rattle.disk.specs.Moments.{LeavesOnly}
use Rattle.record.specs.Accepted.{Accepted, taken}
use Rattle.record.specs.Records.{epoch_of}
use Rattle.record.specs.Facts.{Facts, facts_of}
use Rattle.record.specs.declared.record.Record.{Record}
use Rattle.gatelog.specs.Frames.{IsFull, end_from, next_gate}
use Rattle.gatelog.specs.Log.{log}
use Rattle.gatelog.specs.Slots.{begins_in}
use Rattle.gatelog.specs.Crash.{Begins}
use Rattle.frames.specs.Placed.{Placed}
use Rattle.protocol.specs.Rows.{rebuilt}
use Rattle.recovery.specs.Recovered.{fault_in, items}
use Rattle.shard.specs.Logs.{records_in, and_logged, KeepsRecords, HoldsOldOrWith, BeginsAsBefore}
use Rattle.shard.specs.On.{CoreView}
use Rattle.shard.specs.Armed.{FailsIn, GoesPast, HasPlace}

-- the opening that comes next behind some records
abbrev pub next_opening : List Record → Record
next_opening records = Record.Opened (epoch_of records + 1)

abbrev pub opening_of : Result (List Record) Fault → Option Record
opening_of (Ok records) = Some (next_opening records)
opening_of (Err fault) = None

-- the records are taken, and these are the facts once the opening is learnt
abbrev pub IsTaken : Setup → Result (List Record) Fault → Facts → Type 0
IsTaken setup (Ok records) facts = (taken setup records ≡ Accepted) × (facts ≡ facts_of (records ++ next_opening records ∷ []))
IsTaken setup (Err fault) facts = ⊥

-- the epoch of an opening is below the limit
abbrev pub HasLawfulEpoch : Record → Type 0
HasLawfulEpoch (Record.Opened epoch) = epoch < 2 ^ 62
HasLawfulEpoch _ = Unit {0}

-- why a log is not taken up: it is none, or its first record that has no place
abbrev pub fault_of : Setup → Result (List Placed) Fault → Option Fault
fault_of setup (Ok entries) = fault_in (taken setup (items entries)) entries
fault_of setup (Err fault) = Some fault

-- what a crash within an opening leaves: no more than one before it, or the records that were read, or these with the opening
abbrev pub LeavesOpening : Surface → List ℕ → Type 0
LeavesOpening disk image = MayLeave disk image ⊎ HoldsOldOrWith (records_in disk.seen) (opening_of (records_in disk.seen)) image

-- where a log with these records ends in a file
abbrev pub end_in : List ℕ → List Record → ℕ
end_in image records = end_from (begins_in image).at records

-- the records are taken, but the opening has no room: epochs are at their limit, or the log is full
pub record IsSpent (setup : Setup) (disk : Surface) (records : List Record) : Type 0 where
  pub read : records_in disk.seen ≡ Ok records
  pub taken : taken setup records ≡ Accepted
  pub spent : (2 ^ 62 ≤ epoch_of records + 1) ⊎ IsFull (end_in disk.seen records) (next_opening records)

abbrev pub HasNoRoom : Setup → Surface → Type 0
HasNoRoom setup disk = (records : List Record) × IsSpent setup disk records

-- the records are taken, and the opening has room
pub record HasRoomFor (setup : Setup) (disk : Surface) (records : List Record) : Type 0 where
  pub read : records_in disk.seen ≡ Ok records
  pub taken : taken setup records ≡ Accepted
  pub epoch : epoch_of records + 1 < 2 ^ 62
  pub place : HasPlace (end_in disk.seen records) (Some (next_opening records))

abbrev pub HasRoom : Setup → Surface → Type 0
HasRoom setup disk = (records : List Record) × HasRoomFor setup disk records

-- why it is not taken up, where the device did not fail and memory was there
abbrev pub IsReason : Setup → Surface → Fault → Type 0
IsReason setup disk fault = (fault_of setup (log disk.seen) ≡ Some fault) ⊎ ((fault ≡ TimeSpent) × HasNoRoom setup disk)

-- the reasons that there may be, whatever the disk keeps
abbrev pub is_reason : Fault → Bool
is_reason NotALog = true
is_reason (Damaged offset) = true
is_reason Stranger = true
is_reason TimeSpent = true
is_reason _ = false

-- it is one of them, and the one that is due by what a read gives
abbrev pub IsToldReason : Type 0 → Setup → Surface → Fault → Type 0
IsToldReason keeps setup disk fault = IsTrue (is_reason fault) × (keeps → IsReason setup disk fault)

module _ {D : Type 0} (keeps obeys : Type 0) (file : D → File) (clock : D → ℕ) (since : D → ℕ → List ℕ → Type 0) (failures : D → ℕ)
    (plan : D → FailurePlan) where
  -- a record was added to a log that ended at this gate
  pub record HasAppended (disk : D) (before : ℕ) (item : Record) (core : CoreView D) : Type 0 where
    pub running : IsFalse core.stopped
    pub any_moment : keeps → LeavesOnly clock since disk core.disk (HoldsOldOrWith (records_in (surface (file disk)).seen) (Some item))
    pub begins : keeps → LeavesOnly clock since disk core.disk (BeginsAsBefore (surface (file disk)))
    pub durable : keeps → KeepsRecords (surface (file core.disk)) (and_logged (records_in (surface (file disk)).seen) (Some item))
    pub read : keeps → records_in (surface (file core.disk)).seen ≡ and_logged (records_in (surface (file disk)).seen) (Some item)
    pub gate : (core.gate ≡ next_gate before item) × HasPlace before (Some item)
    pub epoch : HasLawfulEpoch item
    pub failures_stay : failures disk ≤ failures core.disk
    pub planned : obeys → plan disk ≡ Never → plan core.disk ≡ Never
    pub armed : (call : ℕ) → obeys → keeps → plan disk ≡ AfterWrite call → GoesPast call (Some item)

  -- it was not, and the disk is given back
  pub record HasNotAppended (disk : D) (before : ℕ) (item : Record) (full : Type 0) (fault : Fault) (back : D) : Type 0 where
    pub cause : (fault ≡ WantsMemory) ⊎ (((fault ≡ Device) × (failures disk < failures back)) ⊎ ((fault ≡ TimeSpent) × full))
    pub any_moment : keeps → LeavesOnly clock since disk back (HoldsOldOrWith (records_in (surface (file disk)).seen) (Some item))
    pub begins : keeps → LeavesOnly clock since disk back (BeginsAsBefore (surface (file disk)))
    pub unchanged : (fault ≡ Device) ⊎ (file back ≡ file disk)
    -- the device failed in the append; else a crash at any moment since the start leaves only what it might have left before
    pub tried : ((fault ≡ Device) × HasPlace before (Some item)) ⊎ ((fault ≢ Device) × LeavesOnly clock since disk back (MayLeave (surface (file disk))))
    pub epoch : fault ≡ Device → HasLawfulEpoch item
    pub planned : obeys → plan disk ≡ Never → fault ≢ Device
    pub armed : (call : ℕ) → obeys → keeps → plan disk ≡ AfterWrite call
        → FailsIn call before (records_in (surface (file disk)).seen) (Some item) (file back) fault

  -- the log of a disk was taken up, and the next opening is logged
  pub record HasOpened (disk : D) (told : Setup) (core : CoreView D) : Type 0 where
    pub setup : core.setup ≡ told
    pub running : IsFalse core.stopped
    pub taken : keeps → IsTaken told (records_in (surface (file disk)).seen) core.facts
    -- the rows are those that the log holds, nothing is ended, and the greatest timestamp is the log's
    pub memory : core.memory ≡ rebuilt core.facts
    -- a crash at any moment since the start leaves no more than one before, or what was read, or that with the opening
    pub any_moment : keeps → LeavesOnly clock since disk core.disk (LeavesOpening (surface (file disk)))
    -- and the log begins where it began
    pub begins : keeps → LeavesOnly clock since disk core.disk (BeginsAsBefore (surface (file disk)))
    -- from then on every crash leaves a log that begins where the one that was read does
    pub begun : keeps → Begins (surface (file core.disk)) (begins_in (surface (file disk)).seen)
    -- from then on every crash leaves what was read with the opening, and a read gives it
    pub durable : keeps → KeepsRecords (surface (file core.disk)) (and_logged (records_in (surface (file disk)).seen)
        (opening_of (records_in (surface (file disk)).seen)))
    pub read : keeps → records_in (surface (file core.disk)).seen ≡ and_logged (records_in (surface (file disk)).seen)
        (opening_of (records_in (surface (file disk)).seen))
    pub gate : (records : List Record) → keeps → records_in (surface (file disk)).seen ≡ Ok records
        → (core.gate ≡ next_gate (end_in (surface (file disk)).seen records) (next_opening records))
        × HasPlace (end_in (surface (file disk)).seen records) (Some (next_opening records))
    -- the next free slot is the one behind those that are open in the file
    pub slot : keeps → core.slot ≡ (begins_in (surface (file disk)).seen).slots
    pub epoch : (records : List Record) → keeps → records_in (surface (file disk)).seen ≡ Ok records → epoch_of records + 1 < 2 ^ 62
    pub failures_stay : failures disk ≤ failures core.disk
    pub planned : obeys → plan disk ≡ Never → plan core.disk ≡ Never
    -- with a call armed, counted from 0 in the append of the opening: it is none of its four
    pub armed : (call : ℕ) → obeys → keeps → plan disk ≡ AfterWrite call → IsFalse (nat_lt call 4)

  -- it was not, and the disk is given back
  pub record HasNotOpened (disk : D) (told : Setup) (fault : Fault) (back : D) : Type 0 where
    pub cause : (fault ≡ WantsMemory) ⊎ (((fault ≡ Device) × (failures disk < failures back)) ⊎ IsToldReason keeps told (surface (file disk)) fault)
    pub any_moment : keeps → LeavesOnly clock since disk back (LeavesOpening (surface (file disk)))
    pub begins : keeps → LeavesOnly clock since disk back (BeginsAsBefore (surface (file disk)))
    -- but for a device that failed, the file reads as it did
    pub unchanged : (fault ≡ Device) ⊎ (keeps → (surface (file back)).seen ≡ (surface (file disk)).seen)
    -- the device failed in the append of the opening; else a crash at any moment since the start leaves only what it might have left before
    pub tried : ((fault ≡ Device) × (keeps → HasRoom told (surface (file disk))))
        ⊎ (keeps → LeavesOnly clock since disk back (MayLeave (surface (file disk))))
    -- but for memory and a device that failed, the file is synced
    pub synced : (fault ≡ WantsMemory) ⊎ ((fault ≡ Device) ⊎ (keeps → surface (file back) ≡ after_sync (surface (file disk))))
    -- with a call armed, counted from 0 in the append of the opening: it fails there, and leaves this
    pub armed : (call : ℕ) (records : List Record) → obeys → keeps → plan disk ≡ AfterWrite call → records_in (surface (file disk)).seen ≡ Ok records
        → FailsIn call (end_in (surface (file disk)).seen records) (Ok records) (Some (next_opening records)) (file back) fault
        × (fault ≡ Device → (epoch_of records + 1 < 2 ^ 62) × Begins (surface (file back)) (begins_in (surface (file disk)).seen))
    -- with no call armed, it is for want of memory or for that reason
    pub planned : obeys → plan disk ≡ Never → (fault ≡ WantsMemory) ⊎ IsToldReason keeps told (surface (file disk)) fault
