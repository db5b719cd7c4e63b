-- What a turnover makes of a desk, and what a renewal does.
use Rattle.std.specs.Prelude.{◌≡◌, ◌⊎◌, ℕ, ◌-◌, ◌&&◌, nat_lt, nat_le, cond, Bool, true, false, List, [], ◌∷◌, ◌++◌, Option, Some, None, Result, Ok, Err, IsOk}
use Rattle.units.specs.declared.fault.Fault.{Fault}
use Rattle.disk.specs.declared.plan.FailurePlan.{FailurePlan}
use Rattle.disk.specs.File.{File, surface}
use Rattle.truetime.specs.Interval.{Interval}
use Rattle.disk.specs.Image.{Surface, MayLeave}
use Rattle.disk.specs.Moments.{LeavesOnly}
use Rattle.shard.specs.Beginnings.{IsBegunIn}
use Rattle.shard.specs.Logs.{HoldsOldOrWith, records_in}
use Rattle.shard.specs.On.{CoreView}
use Rattle.shard.specs.Moved.{HoldsRenewal}
use Rattle.shard.specs.Opened.{next_opening}
use Rattle.record.specs.Facts.{Facts, facts_of, learn}
use Rattle.record.specs.declared.record.Record.{Record}
use Rattle.protocol.specs.Rows.{rebuilt, safe}
use Rattle.shard.specs.Turned.{HasTurned}
use Rattle.shard.specs.declared.begun.Begun.{Begun}
use Rattle.node.specs.declared.measure.Measure.{Measure}
use Rattle.node.specs.declared.renewing.Past.{Past}
use Rattle.node.specs.InStep.{DeskView, HasKept, horizon_for}

-- a log by where it begins, and from where on it has grown
abbrev pub found_at : Begun → Measure
found_at begun = record { held = begun.grown - begun.at; ended = begun.grown; begins = begun.at }

-- the log of a file was measured by where it begins there
abbrev pub IsFoundIn : List ℕ → Measure → Type 0
IsFoundIn image measure = (begun : Begun) × IsBegunIn image begun × (measure ≡ found_at begun)

-- A crash might have left the image before, or it has the records that a read gave, and maybe more behind them.
abbrev pub HoldsMore : Surface → List ℕ → Type 0
HoldsMore disk image =
    MayLeave disk image
    ⊎ ((records more : List Record) × (records_in disk.seen ≡ Ok records) × (records_in image ≡ Ok (records ++ more)))

-- a read of one image gives a log, and a read of another the same, and maybe more behind it
abbrev pub GoesOnFrom : List ℕ → List ℕ → Type 0
GoesOnFrom old new = (records more : List Record) × (records_in old ≡ Ok records) × (records_in new ≡ Ok (records ++ more))

-- the facts of a log that was opened once more
abbrev pub opened_facts : List Record → Facts
opened_facts records = facts_of (records ++ next_opening records ∷ [])

-- A read of an image gives a log, and these are its facts once it is opened.
abbrev pub HasOpenedFacts : List ℕ → Facts → Type 0
HasOpenedFacts image facts = (records : List Record) × (records_in image ≡ Ok records) × (facts ≡ opened_facts records)

-- the facts with a horizon, where that is above theirs
abbrev pub with_horizon : ℕ → Facts → Facts
with_horizon at facts = cond (nat_lt facts.horizon at) (learn facts (Record.Horizon at)) facts

-- the facts of a shard that keeps so much of its past, or all of it: nothing that it does not serve is forgotten
abbrev pub kept_of : Option Past → Facts → Facts
kept_of None facts = facts
kept_of (Some past) facts = with_horizon (horizon_for (safe (rebuilt facts)) past.now.earliest past.micros) facts

-- A read of one file gives a log. Every image that a crash now may leave of another file holds the renewal of that log, opened once more, with so
-- much of its past.
abbrev pub IsRenewed : Option Past → List ℕ → Surface → Type 0
IsRenewed past image disk =
    (records : List Record) × (records_in image ≡ Ok records) × HoldsRenewal disk (kept_of past (opened_facts records))

-- it has grown by so many bytes at least, and by more than it held: behind a turnover, to more than twice its length
abbrev pub has_grown : Measure → ℕ → ℕ → Bool
has_grown measure gate least = nat_lt measure.held (gate - measure.ended) && nat_le least (gate - measure.ended)

-- it begins more than so many bytes into its file, and more than twice what it held
abbrev pub lies_far : Measure → ℕ → Bool
lies_far measure beyond = nat_lt beyond measure.begins && nat_lt measure.held (measure.begins - measure.held)

-- Behind a turnover of a log that ended at a former gate. The new area has what is between that one and its own gate. Where it was refused, what
-- the log held is not known anew.
abbrev pub measured : Measure → ℕ → ℕ → Result (Unit {0}) Fault → Measure
measured measure former gate (Ok done) = record { held = gate - former - 1; ended = gate; begins = gate - (gate - former - 1) }
measured measure former gate (Err fault) = record { held = measure.held; ended = gate; begins = measure.begins }

-- A core did nothing, or its disk took one record more, or none, whatever crash comes.
abbrev pub HasTriedOne : {D : Type 0} → (D → File) → (D → ℕ) → (D → ℕ → List ℕ → Type 0) → CoreView D → CoreView D → Type 0
HasTriedOne file clock since old new =
    (new.disk ≡ old.disk)
    ⊎ ((logged : Option Record) × LeavesOnly clock since old.disk new.disk (HoldsOldOrWith (records_in (surface (file old.disk)).seen) logged))

module _ {D : Type 0} (keeps obeys : Type 0) (file : D → File) (clock : D → ℕ) (since : D → ℕ → List ℕ → Type 0) (failures : D → ℕ)
    (plan : D → FailurePlan) where
  -- The core turned its log over, or refused it. The book and the board stay, and the log was measured.
  pub record HasTurnedOver (old new : DeskView D) (result : Result (Unit {0}) Fault) : Type 0 where
    pub turned : HasTurned keeps obeys file clock since failures plan old.core new.core result
    pub book : new.book ≡ old.book
    pub board : new.board ≡ old.board
    pub measure : new.measure ≡ measured old.measure old.core.gate new.core.gate result

  -- a log that has grown, or not, is turned over, or not
  abbrev pub HasTurnedIf : Bool → DeskView D → DeskView D → Result (Unit {0}) Fault → Type 0
  HasTurnedIf true old new result = HasTurnedOver old new result
  HasTurnedIf false old new result = (new ≡ old) × IsOk result

  -- where the horizon was refused that is all; else the log is turned over where it has grown
  abbrev pub GoesOn : Result (Unit {0}) Fault → DeskView D → DeskView D → ℕ → Result (Unit {0}) Fault → Type 0
  GoesOn (Ok done) old new least result = HasTurnedIf (has_grown old.measure old.core.gate least) old new result
  GoesOn (Err fault) old new least result = (new ≡ old) × (result ≡ Err fault)

  -- the core was asked for the horizon that keeps so many microseconds, and went on from there
  pub record HasRenewed (old new : DeskView D) (now : Interval) (micros least : ℕ) (result : Result (Unit {0}) Fault) : Type 0 where
    pub between : DeskView D
    pub kept : Result (Unit {0}) Fault
    pub horizon : HasKept keeps obeys file clock since failures plan old between now micros kept
    pub goes_on : GoesOn kept between new least result
