-- A core that gathers a group: its state has taken in records that its log does not have yet.
use Rattle.std.specs.Prelude.{◌≡◌, ◌⊎◌, ◌<◌, ◌≤◌, ℕ, IsTrue, IsFalse, nat_lt, List, [], ◌∷◌, ◌++◌, drop, take, length, Result, Ok, Err, option_to_list}
use Rattle.std.specs.List.{list_all}
use Rattle.units.specs.declared.fault.Fault.{Fault}
use Rattle.units.specs.declared.fault.Fault.TheVariants.{Memory as WantsMemory, TimeSpent}
use Rattle.units.specs.declared.setup.Setup.{Setup}
use Rattle.units.specs.declared.writes.Install.{Install}
use Rattle.disk.specs.Image.{Surface, MayLeave}
use Rattle.disk.specs.File.{File, surface}
use Rattle.disk.specs.Moments.{LeavesOnly}
use Rattle.record.specs.declared.record.Record.{Record}
use Rattle.record.specs.Facts.{Facts}
use Rattle.truetime.specs.Interval.{Interval}
use Rattle.message.specs.declared.message.Envelope.{Envelope}
use Rattle.message.specs.declared.message.Input.{Input}
use Rattle.protocol.specs.Rows.{Memory, safe}
use Rattle.protocol.specs.Step.{Stepped, Refuses, Does, step, facts_after}
use Rattle.gatelog.specs.Frames.{end_from}
use Rattle.ledger.specs.Keeps.{Alike}
use Rattle.shard.specs.Logs.{records_in, learned, KeepsRecords, BeginsAsBefore}
use Rattle.shard.specs.On.{CoreView, IsLogFull}
use Rattle.shard.specs.Look.{Looks, safe_at}

-- ---- the steps of a group

-- an input, and the reading with which it is taken
pub record Arrival : Type 0 where
  pub now : Interval
  pub input : Input

-- what the inputs of a group have come to so far
pub record Batch : Type 0 where
  pub facts : Facts
  pub memory : Memory
  pub records : List Record
  pub outboxes : List (List Envelope)

-- nothing has come yet
abbrev pub begun : Facts → Memory → Batch
begun facts memory = record { facts = facts; memory = memory; records = []; outboxes = [] }

-- the step of an input after those before it
abbrev pub step_in : Setup → Batch → Arrival → Stepped
step_in setup b a = step setup b.facts b.memory a.now a.input

-- the step is done: its record, if it has one, is after the others, and so is its outbox
abbrev pub IsAdded : Stepped → Batch → Batch → Type 0
IsAdded (Refuses why) b next = ⊥
IsAdded (Does logged memory outbox) b next = next ≡ record {
  facts = facts_after b.facts logged;
  memory = memory;
  records = b.records ++ option_to_list logged;
  outboxes = b.outboxes ++ outbox ∷ [];
}

-- Each of these inputs is stepped on what those before it leave, and is done.
abbrev pub LeadsTo : Setup → Batch → List Arrival → Batch → Type 0
LeadsTo setup b [] last = last ≡ b
LeadsTo setup b (a ∷ more) last = (next : Batch) × IsAdded (step_in setup b a) b next × LeadsTo setup next more last

-- Why an input is not taken into a group of these records: its step refuses it; or the step would be done, and a growth was refused, or the
-- log would pass its limit with the group's records and its own.
abbrev pub IsLeftOut : ℕ → List Record → Stepped → Fault → Type 0
IsLeftOut gate records (Refuses why) fault = fault ≡ why
IsLeftOut gate records (Does logged memory outbox) fault = (fault ≡ WantsMemory) ⊎ ((fault ≡ TimeSpent) × IsLogFull (end_from gate records) logged)

-- the arrivals with one more, if it was taken
abbrev pub and_taken : {T : Type 0} → List Arrival → Interval → Input → Result T Fault → List Arrival
and_taken arrivals now i (Ok done) = arrivals ++ (record { now = now; input = i }) ∷ []
and_taken arrivals now i (Err fault) = arrivals

-- ---- the log of a core that is ahead

-- every image holds the records of before the group; with the group's they tell what the core knows
pub record IsAheadOfLog (disk : Surface) (more : List Record) (facts : Facts) : Type 0 where
  pub records : List Record
  pub learnt : Alike facts (learned (records ++ more))
  pub held : KeepsRecords disk (Ok records)

-- what came since so many versions were served up to a time is above that, and is not served below it
pub record IsSince (served versions : ℕ) (facts : Facts) (memory : Memory) : Type 0 where
  pub there : versions ≤ length facts.installs
  pub rises : served ≤ safe memory
  pub above : IsTrue (list_all (λ (i : Install). nat_lt served i.at) (drop versions facts.installs))

-- some records, and some more after them
abbrev pub and_logged_all : Result (List Record) Fault → List Record → Result (List Record) Fault
and_logged_all (Ok records) more = Ok (records ++ more)
and_logged_all (Err fault) more = Err fault

-- the image holds the old records, or these with all of the group's
abbrev pub HoldsOldOrWithAll : Result (List Record) Fault → List Record → List ℕ → Type 0
HoldsOldOrWithAll old more image = (records_in image ≡ old) ⊎ (records_in image ≡ and_logged_all old more)

-- ---- what contracts see

-- A core that is ahead: as it is, with its log as it was; the records of its group, and the outboxes that wait for them; and what was served
-- before the group, of which versions, which are the first ones.
pub record AheadView (D : Type 0) : Type 0 where
  pub core : CoreView D
  pub records : List Record
  pub outboxes : List (List Envelope)
  pub served : ℕ
  pub versions : ℕ
  pub shown : List Install

-- what its group has come to
abbrev pub batch_of : {D : Type 0} → AheadView D → Batch
batch_of ahead = record { facts = ahead.core.facts; memory = ahead.core.memory; records = ahead.records; outboxes = ahead.outboxes }

-- a core that a failing group has stopped: its disk, and what its looks go by
pub record HaltedView (D : Type 0) : Type 0 where
  pub disk : D
  pub looks : Looks

module _ {D : Type 0} (file : D → File) (clock : D → ℕ) (since : D → ℕ → List ℕ → Type 0) (failures : D → ℕ) where
  -- a core's disk took memory at most
  pub record HasGrown (old new : CoreView D) : Type 0 where
    pub setup : new.setup ≡ old.setup
    pub gate : new.gate ≡ old.gate
    pub slot : new.slot ≡ old.slot
    pub stopped : new.stopped ≡ old.stopped
    pub file_same : file new.disk ≡ file old.disk
    pub failures_stay : failures old.disk ≤ failures new.disk
    pub time : LeavesOnly clock since old.disk new.disk (MayLeave (surface (file old.disk)))

  -- From this core these inputs lead there: each was stepped in turn, nothing is written, and looks go by what was served before.
  pub record IsAheadOf (old : CoreView D) (ahead : AheadView D) (arrivals : List Arrival) : Type 0 where
    pub running : IsFalse old.stopped
    pub run : LeadsTo old.setup (begun old.facts old.memory) arrivals (batch_of ahead)
    pub grown : HasGrown old ahead.core
    pub served : ahead.served ≡ safe_at old
    pub versions : ahead.versions ≡ length old.facts.installs
    pub shown : ahead.shown ≡ old.facts.installs

module _ {D : Type 0} (keeps : Type 0) (file : D → File) (clock : D → ℕ) (since : D → ℕ → List ℕ → Type 0) (failures : D → ℕ) where
  -- what holds of a core's disk over a group with these records, whatever it comes to
  pub record HasWrittenAll (old : CoreView D) (records : List Record) (disk : D) : Type 0 where
    pub failures_stay : failures old.disk ≤ failures disk
    -- a crash at any moment since the start leaves the old records, or these with all of the group's
    pub any_moment : keeps → LeavesOnly clock since old.disk disk (HoldsOldOrWithAll (records_in (surface (file old.disk)).seen) records)
    -- and the log begins where it began
    pub begins : keeps → LeavesOnly clock since old.disk disk (BeginsAsBefore (surface (file old.disk)))

  -- A group was taken: its inputs were stepped one after another, and what they put out is handed out.
  pub record HasSteppedAll (old new : CoreView D) (arrivals : List Arrival) (outboxes : List (List Envelope)) : Type 0 where
    pub batch : Batch
    pub run : LeadsTo old.setup (begun old.facts old.memory) arrivals batch
    pub written : HasWrittenAll old batch.records new.disk
    -- from then on every crash leaves all of its records, and a read gives them
    pub durable : keeps → KeepsRecords (surface (file new.disk)) (and_logged_all (records_in (surface (file old.disk)).seen) batch.records)
    pub read : keeps → records_in (surface (file new.disk)).seen ≡ and_logged_all (records_in (surface (file old.disk)).seen) batch.records
    pub running : IsFalse old.stopped × IsFalse new.stopped
    pub setup : new.setup ≡ old.setup
    pub facts : new.facts ≡ batch.facts
    pub memory : new.memory ≡ batch.memory
    pub out : outboxes ≡ batch.outboxes
    -- the served time does not fall, and the versions stay; those that came are above what was served before
    pub grew : ∥ IsSince (safe_at old) (length old.facts.installs) new.facts new.memory ∥₁
    pub shown : take (length old.facts.installs) new.facts.installs ≡ old.facts.installs
    pub gate : new.gate ≡ end_from old.gate batch.records
    pub slot : new.slot ≡ old.slot

  -- A group failed with the device: nothing is handed out, and looks are answered as before it.
  pub record HasHalted (old : CoreView D) (halted : HaltedView D) (arrivals : List Arrival) : Type 0 where
    pub batch : Batch
    pub run : LeadsTo old.setup (begun old.facts old.memory) arrivals batch
    pub written : HasWrittenAll old batch.records halted.disk
    pub failed : failures old.disk < failures halted.disk
    pub setup : halted.looks.setup ≡ old.setup
    pub horizon : halted.looks.horizon ≡ batch.facts.horizon
    pub served : halted.looks.served ≡ safe_at old
    pub installs : halted.looks.installs ≡ old.facts.installs
