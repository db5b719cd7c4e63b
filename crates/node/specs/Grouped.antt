-- What inputs come to that a desk takes as a group.
use Rattle.std.specs.Prelude.{◌≡◌, ◌⊎◌, ℕ, IsTrue, IsSome, List, [], ◌∷◌, ◌++◌, length, Option, Some, None}
use Rattle.std.specs.List.{AllByRecursion}
use Rattle.units.specs.declared.fault.Fault.{Fault}
use Rattle.disk.specs.File.{File}
use Rattle.letters.specs.declared.serves.Taken.{Taken}
use Rattle.message.specs.declared.message.Envelope.{Envelope}
use Rattle.message.specs.declared.message.Input.{Input}
use Rattle.truetime.specs.Interval.{Interval}
use Rattle.shard.specs.Groups.{AheadView, Arrival, Batch, HaltedView, HasHalted, HasSteppedAll, IsAheadOf, IsLeftOut, LeadsTo, begun, step_in}
use Rattle.shard.specs.On.{CoreView}
use Rattle.node.specs.InStep.{DeskView}
use Rattle.node.specs.Restart.{PlaceView, RestView, Serving, Resting}

-- an input, taken at a reading
abbrev pub arrival : Interval → Input → Arrival
arrival now i = record { now = now; input = i }

-- the arrivals with one more, unless it was refused
abbrev pub and_unless : List Arrival → Interval → Input → Option Fault → List Arrival
and_unless arrivals now i None = arrivals ++ arrival now i ∷ []
and_unless arrivals now i (Some why) = arrivals

-- those of some inputs that were taken, in order; each is there with why it was refused, where it was
abbrev pub taken_of : Interval → List Input → List (Option Fault) → List Arrival
taken_of now [] whys = []
taken_of now (i ∷ is) [] = []
taken_of now (i ∷ is) (None ∷ whys) = arrival now i ∷ taken_of now is whys
taken_of now (i ∷ is) (Some why ∷ whys) = taken_of now is whys

-- the input is refused for this behind those that were taken before it
abbrev pub IsOutAfter : {D : Type 0} → CoreView D → List Arrival → Arrival → Fault → Type 0
IsOutAfter core before a why =
    (b : Batch) × LeadsTo core.setup (begun core.facts core.memory) before b × IsLeftOut core.gate b.records (step_in core.setup b a) why

-- each of some inputs that was refused is refused for its own cause, and stands in no group
abbrev pub AreLeftOut : {D : Type 0} → CoreView D → List Arrival → Interval → List Input → List (Option Fault) → Type 0
AreLeftOut core before now [] whys = Unit {0}
AreLeftOut core before now (i ∷ is) [] = Unit {0}
AreLeftOut core before now (i ∷ is) (None ∷ whys) = AreLeftOut core (before ++ arrival now i ∷ []) now is whys
AreLeftOut core before now (i ∷ is) (Some why ∷ whys) = IsOutAfter core before (arrival now i) why × AreLeftOut core before now is whys

-- a wait goes on, or what is decided is settled
abbrev pub IsDue : Input → Type 0
IsDue Input.Resume = Unit {0}
IsDue (Input.Settle txn) = Unit {0}
IsDue _ = ⊥

abbrev pub IsDueAt : Interval → Arrival → Type 0
IsDueAt now a = (a.now ≡ now) × IsDue a.input

module _ {D : Type 0} (file : D → File) (clock : D → ℕ) (since : D → ℕ → List ℕ → Type 0) (failures : D → ℕ) where
  -- from this core some arrivals lead there, and after them some steps that were due
  abbrev pub IsAheadWith : CoreView D → AheadView D → Interval → List Arrival → Type 0
  IsAheadWith from ahead now arrivals =
      (due : List Arrival) × AllByRecursion (IsDueAt now) due × IsAheadOf file clock since failures from ahead (arrivals ++ due)

module _ {D : Type 0} (keeps : Type 0) (file : D → File) (clock : D → ℕ) (since : D → ℕ → List ℕ → Type 0) (failures : D → ℕ) where
  -- Some inputs were taken as a group, in order, and after them steps that were due. Those that were refused are left out.
  pub record HasTakenAll (old new : CoreView D) (now : Interval) (inputs : List Input) (whys : List (Option Fault)) (out : List (List Envelope)) : Type 0 where
    pub due : List Arrival
    pub dues : AllByRecursion (IsDueAt now) due
    pub count : length whys ≡ length inputs
    pub left : AreLeftOut old [] now inputs whys
    pub stepped : HasSteppedAll keeps file clock since failures old new (taken_of now inputs whys ++ due) out

  -- their group failed with the device, and left this disk
  pub record HasFailedAll (old : CoreView D) (disk : D) (now : Interval) (inputs : List Input) : Type 0 where
    pub due : List Arrival
    pub dues : AllByRecursion (IsDueAt now) due
    pub whys : List (Option Fault)
    pub count : length whys ≡ length inputs
    pub left : AreLeftOut old [] now inputs whys
    pub halted : HaltedView D
    pub same : disk ≡ halted.disk
    pub failed : HasHalted keeps file clock since failures old halted (taken_of now inputs whys ++ due)

  -- a desk took them so, and its board stays
  pub record HasTakenTogether (old new : DeskView D) (now : Interval) (inputs : List Input) (taken : Taken) : Type 0 where
    pub core : HasTakenAll old.core new.core now inputs taken.refusals.items taken.outboxes.items
    pub before : old.book ≡ None
    pub after : new.book ≡ None
    pub board : new.board ≡ old.board
    pub measure : new.measure ≡ old.measure

  -- a desk was stopped by them: its disk is left, and its board
  pub record HasStoppedTogether (old : DeskView D) (rest : RestView D) (now : Interval) (inputs : List Input) : Type 0 where
    pub core : HasFailedAll old.core rest.disk now inputs
    pub board : rest.board ≡ Some old.board

  -- what lies under a lock took them so
  abbrev pub HasTakenIn : PlaceView D → PlaceView D → Interval → List Input → Taken → Type 0
  HasTakenIn (Serving old) (Serving new) now inputs taken = HasTakenTogether old new now inputs taken
  HasTakenIn _ _ now inputs taken = ⊥

  -- and was stopped by them
  abbrev pub HasStoppedIn : PlaceView D → PlaceView D → Interval → List Input → Type 0
  HasStoppedIn (Serving old) (Resting rest) now inputs = HasStoppedTogether old rest now inputs
  HasStoppedIn _ _ now inputs = ⊥

-- a desk that takes inputs one by one: its core is stopped, or keeps a book
abbrev pub IsOneByOne : {D : Type 0} → DeskView D → Type 0
IsOneByOne desk = IsTrue desk.core.stopped ⊎ IsSome desk.book

-- so is a disk alone
abbrev pub IsOneByOneIn : {D : Type 0} → PlaceView D → Type 0
IsOneByOneIn (Serving desk) = IsOneByOne desk
IsOneByOneIn (Resting rest) = Unit {0}
