-- What a desk keeps of its core and its board.
use Rattle.std.specs.Prelude.{◌≡◌, ◌⊎◌, ℕ, ◌<◌, ◌≤◌, ◌-◌, min, IsTrue, All, List, [], ◌∷◌, ◌++◌, map, drop, length, Option, Result, Ok, Err, IsOk, Bool, true, false}
use Rattle.units.specs.declared.fault.Fault.{Fault}
use Rattle.units.specs.declared.fault.Fault.TheVariants.{Memory as WantsMemory, BadRequest}
use Rattle.units.specs.declared.fault.Reason.TheVariants.{Many}
use Rattle.units.specs.declared.setup.Setup.{Setup}
use Rattle.units.specs.declared.writes.Install.{Install}
use Rattle.disk.specs.declared.plan.FailurePlan.{FailurePlan}
use Rattle.disk.specs.File.{File}
use Rattle.message.specs.declared.message.Envelope.{Envelope}
use Rattle.message.specs.declared.message.Input.{Input}
use Rattle.truetime.specs.Interval.{Interval}
use Rattle.versions.specs.Places.{SameVersions}
use Rattle.shard.specs.Books.{BookView, HasBookRoom, IsBookFull}
use Rattle.shard.specs.Booked.{HasEntered, IsCrowded}
use Rattle.shard.specs.On.{CoreView, HasStepped, step_of}
use Rattle.shard.specs.Held.{without_passed}
use Rattle.shard.specs.Look.{safe_at}
use Rattle.board.specs.declared.entry.BoardEntry.{BoardEntry}
use Rattle.board.specs.declared.entry.BoardEntry.TheVariants.{Installed, Safe}
use Rattle.board.specs.declared.home.Home.{Home}
use Rattle.board.specs.Board.{is_board, versions_on, safe_on, horizon_on}
use Rattle.board.specs.Views.{Publishing, Published, Viewing}
use Rattle.node.specs.declared.measure.Measure.{Measure}

-- the versions as entries of a board
abbrev pub as_entries : List Install → List BoardEntry
as_entries installs = map (λ i. Installed i) installs

-- The board was handed the first versions of the core, and may be handed the others: with these it has the core's newest version of each key, now and
-- at each timestamp from the core's horizon up. Its served time and its horizon are at most the core's.
pub record InStep (installs : List Install) (served handed from : ℕ) (entries : List BoardEntry) : Type 0 where
  pub count : handed ≤ length installs
  pub same : SameVersions from (versions_on entries ++ drop handed installs) installs
  pub lawful : IsTrue (is_board (entries ++ as_entries (drop handed installs)))
  pub safe : safe_on entries ≤ served
  pub horizon : horizon_on entries ≤ from

abbrev pub IsInStep : {D : Type 0} → CoreView D → ℕ → Publishing → Type 0
IsInStep core handed p = InStep core.facts.installs (safe_at core) handed core.facts.horizon (p.published ++ p.pending)

-- the board shows these entries, and none is pending
abbrev pub IsNewBoard : Publishing → List BoardEntry → Type 0
IsNewBoard p entries = (p.published ≡ entries) × (p.pending ≡ [])

-- the keys of the shard that is set up so
abbrev pub home_of : Setup → Home
home_of setup = record { splits = setup.splits; shard = setup.shard }

-- so many viewers, each of the board, which have seen and were told its list, and answer for the keys of the shard
abbrev pub AreOnBoard : ℕ → Setup → Publishing → List Viewing → Type 0
AreOnBoard n setup p viewers =
    (length viewers ≡ n)
    × All (λ v. (v.board ≡ p.board) × (v.seen ≡ p.published) × (v.told ≡ p.published) × (v.home ≡ home_of setup)) viewers

-- a number of viewers that a board may have, and one that none has
abbrev pub IsCount : ℕ → Type 0
IsCount n = (0 < n) × (n ≤ 64)

abbrev pub IsNoCount : ℕ → Type 0
IsNoCount n = (n ≡ 0) ⊎ (64 < n)

-- why there is no desk: a number of viewers that no board has; or, with one that it may have, want of memory
abbrev pub IsNoDesk : ℕ → Fault → Type 0
IsNoDesk n fault = (IsCount n × (fault ≡ WantsMemory)) ⊎ (IsNoCount n × (fault ≡ BadRequest Many))

-- viewers see what they saw, on the same board
abbrev pub StillShows : Publishing → Publishing → Type 0
StillShows old new = (new.published ≡ old.published) × (new.board ≡ old.board)

-- what a contract sees of a desk
pub record DeskView (D : Type 0) : Type 0 where
  pub core : CoreView D
  pub book : Option BookView
  pub board : Publishing
  pub measure : Measure

-- the last entry is this served time
abbrev pub EndsSafe : List BoardEntry → ℕ → Type 0
EndsSafe entries t = (before : List BoardEntry) × (entries ≡ before ++ Safe t ∷ [])

-- The board shows this horizon, and from it up what these versions say, and then this served time. The news is of that list.
pub record ShowsAll (versions : List Install) (served from : ℕ) (old new : Publishing) (news : Published) : Type 0 where
  pub installs : SameVersions from (versions_on new.published) versions
  pub ends : EndsSafe new.published served
  pub horizon : horizon_on new.published ≡ from
  pub same : new.board ≡ old.board
  pub told : news ≡ record { board = old.board; list = new.published }

-- the board shows what the core has from its horizon up, that horizon, and its served time
abbrev pub ShowsCore : {D : Type 0} → DeskView D → DeskView D → Published → Type 0
ShowsCore old new news = ShowsAll new.core.facts.installs (safe_at new.core) new.core.facts.horizon old.board new.board news

-- The core's versions went that its horizon passed, unless it keeps a book; or nothing happened. The board shows what it showed.
abbrev pub HasLetGo : {D : Type 0} → Bool → DeskView D → DeskView D → Type 0
HasLetGo true old new = new ≡ record old { core = record old.core { facts = without_passed old.book old.core.facts } }
HasLetGo false old new = new ≡ old

-- the core's own refusal, or want of memory
abbrev pub WhyNot : Result (List Envelope) Fault → Fault → Type 0
WhyNot (Ok out) fault = fault ≡ WantsMemory
WhyNot (Err own) fault = fault ≡ own

-- the horizon that keeps so many microseconds: as far behind a reading, and no later than what is served
abbrev pub horizon_for : ℕ → ℕ → ℕ → ℕ
horizon_for served earliest micros = min served (earliest - micros)

-- what a core serves already, by a reading: its safe time, and no later than the latest
abbrev pub served_by : {D : Type 0} → CoreView D → Interval → ℕ
served_by core now = min (safe_at core) now.latest

-- how an input ends, whatever it puts out
abbrev pub IsEndOf : Result (List Envelope) Fault → Result (Unit {0}) Fault → Type 0
IsEndOf (Ok out) result = IsOk result
IsEndOf (Err fault) result = result ≡ Err fault

module _ {D : Type 0} (keeps obeys : Type 0) (file : D → File) (clock : D → ℕ) (since : D → ℕ → List ℕ → Type 0) (failures : D → ℕ)
    (plan : D → FailurePlan) where
  -- The core took an input, and put out these messages, or refused it. Where its book is full it took none.
  pub record HasTaken (old new : CoreView D) (book after : Option BookView) (now : Interval) (i : Input) (result : Result (List Envelope) Fault) : Type 0 where
    pub stepped : HasBookRoom old.setup.book book → HasStepped keeps obeys file clock since failures plan old new (step_of old now i) result
    pub crowded : IsBookFull old.setup.book book → IsCrowded old new (step_of old now i) result
    pub entered : HasEntered book after now i result

  -- The core took the advance, and its board shows what it has from its horizon up, that horizon, and then its served time. The news is of that list.
  pub record HasAdvanced (old new : DeskView D) (now : Interval) (to : ℕ) (news : Published) : Type 0 where
    pub out : List Envelope
    pub stepped : HasTaken old.core new.core old.book new.book now (Input.Advance to) (Ok out)
    pub shown : ShowsCore old new news
    pub measure : new.measure ≡ old.measure

  -- The core refused the advance; or it took it, and memory for the board was refused. The board shows what it showed.
  pub record HasNotAdvanced (old new : DeskView D) (now : Interval) (to : ℕ) (fault : Fault) : Type 0 where
    pub result : Result (List Envelope) Fault
    pub stepped : HasTaken old.core new.core old.book new.book now (Input.Advance to) result
    pub why : WhyNot result fault
    pub published : new.board.published ≡ old.board.published
    pub board : new.board.board ≡ old.board.board
    pub measure : new.measure ≡ old.measure

  -- The core took a horizon above its own, or refused it. The board stays.
  pub record HasForgotten (old new : DeskView D) (now : Interval) (at : ℕ) (result : Result (Unit {0}) Fault) : Type 0 where
    pub above : old.core.facts.horizon < at
    pub taken : Result (List Envelope) Fault
    pub stepped : HasTaken old.core new.core old.book new.book now (Input.Forget at) taken
    pub told : IsEndOf taken result
    pub board : new.board ≡ old.board
    pub measure : new.measure ≡ old.measure

  -- The horizon that keeps so many microseconds is not above the core's, and nothing happened; or the core was asked for it.
  abbrev pub HasKept : DeskView D → DeskView D → Interval → ℕ → Result (Unit {0}) Fault → Type 0
  HasKept old new now micros result =
      ((horizon_for (safe_at old.core) now.earliest micros ≤ old.core.facts.horizon) × (new ≡ old) × IsOk result)
      ⊎ HasForgotten old new now (horizon_for (safe_at old.core) now.earliest micros) result
