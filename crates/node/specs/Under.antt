-- What the calls come to of what lies under a node's lock. A desk takes them as a desk does. A disk alone takes nothing, as a core
-- that is stopped.
use Rattle.std.specs.Prelude.{◌≡◌, ℕ, Bool, false, List, Option, None, Result, Err, length, is_some, IsSomeAnd}
use Rattle.units.specs.declared.fault.Fault.{Fault}
use Rattle.units.specs.declared.fault.Fault.TheVariants.{Stopped}
use Rattle.units.specs.declared.setup.Setup.{Setup}
use Rattle.units.specs.Ids.{Id}
use Rattle.units.specs.Lists.{gather}
use Rattle.units.specs.Locks.{ready}
use Rattle.disk.specs.declared.plan.FailurePlan.{FailurePlan}
use Rattle.disk.specs.File.{File, surface}
use Rattle.letters.specs.declared.serves.Due.{Due}
use Rattle.letters.specs.declared.serves.Due.TheVariants.{Decided, Prepared}
use Rattle.message.specs.declared.message.Envelope.{Envelope}
use Rattle.message.specs.declared.message.Input.{Input}
use Rattle.truetime.specs.Interval.{Interval}
use Rattle.protocol.specs.Rows.{claims}
use Rattle.shard.specs.RowTable.{nth_prepared, nth_decided, decided_row, IsEarliest}
use Rattle.shard.specs.Settled.{IsDurablySettled}
use Rattle.shard.specs.Books.{BookView}
use Rattle.shard.specs.On.{CoreView}
use Rattle.shard.specs.Look.{safe_at}
use Rattle.board.specs.Board.{first_entries, safe_on}
use Rattle.board.specs.Views.{Published, Viewing}
use Rattle.node.specs.InStep.{HasTaken, HasAdvanced, HasNotAdvanced, HasKept, HasLetGo, IsNewBoard, AreOnBoard, served_by}
use Rattle.node.specs.Renewed.{HasTurnedOver, HasRenewed}
use Rattle.node.specs.Restart.{PlaceView, Serving, Resting}

-- what the shard is told, and the place
pub record Under (D : Type 0) : Type 0 where
  pub setup : Setup
  pub place : Option (PlaceView D)

-- the place is there, and this is so of it
abbrev pub IsUnder : {D : Type 0} → Under D → (PlaceView D → Type 0) → Type 0
IsUnder under P = IsSomeAnd under.place P

-- a desk of this core, with its book, and so many viewers of its new board
abbrev pub IsDeskOf : {D : Type 0} → PlaceView D → CoreView D → Option BookView → ℕ → List Viewing → Type 0
IsDeskOf (Serving desk) core book n viewers =
    (desk.core ≡ core) × (desk.book ≡ book) × IsNewBoard desk.board (first_entries core.facts.installs (safe_at core) core.facts.horizon)
    × AreOnBoard n core.setup desk.board viewers
IsDeskOf (Resting rest) core book n viewers = ⊥

-- The shard is told what it was told. The place was there and is, and this is so of both.
abbrev pub Became : {D : Type 0} → Under D → Under D → (PlaceView D → PlaceView D → Type 0) → Type 0
Became old new P = (new.setup ≡ old.setup) × IsUnder old (λ before. IsUnder new (λ after. P before after))

-- there is a transaction whose wait can be granted
abbrev pub is_ready_in : {D : Type 0} → PlaceView D → Bool
is_ready_in (Serving desk) = is_some (ready (claims desk.core.memory.rows))
is_ready_in (Resting rest) = false

-- the n-th row of this standing
abbrev pub due_in : {D : Type 0} → PlaceView D → Due → ℕ → Option (Id × ℕ)
due_in (Serving desk) Decided n = nth_decided desk.core.memory.rows n
due_in (Serving desk) Prepared n = nth_prepared desk.core.memory.rows n
due_in (Resting rest) due n = None

-- a decided row of the least timestamp
abbrev pub IsEarliestIn : {D : Type 0} → PlaceView D → Option (Id × ℕ) → Type 0
IsEarliestIn (Serving desk) found = IsEarliest (gather decided_row desk.core.memory.rows) found
IsEarliestIn (Resting rest) found = found ≡ None

abbrev pub versions_in : {D : Type 0} → PlaceView D → ℕ
versions_in (Serving desk) = length desk.core.facts.installs
versions_in (Resting rest) = 0

-- versions of a desk's core went, or nothing happened
abbrev pub HasLetGoIn : {D : Type 0} → Bool → PlaceView D → PlaceView D → Type 0
HasLetGoIn went (Serving old) (Serving new) = HasLetGo went old new
HasLetGoIn went (Resting old) (Resting new) = (went ≡ false) × (new ≡ old)
HasLetGoIn went _ _ = ⊥

-- what the core of a desk serves already, by a reading; of a disk alone nothing
abbrev pub served_in : {D : Type 0} → PlaceView D → Interval → ℕ
served_in (Serving desk) now = served_by desk.core now
served_in _ now = 0

module _ {D : Type 0} (keeps obeys : Type 0) (file : D → File) (clock : D → ℕ) (since : D → ℕ → List ℕ → Type 0) (failures : D → ℕ)
    (plan : D → FailurePlan) where
  -- the desk took an input, or refused it
  abbrev pub HasDelivered : PlaceView D → PlaceView D → Interval → Input → Result (List Envelope) Fault → Type 0
  HasDelivered (Serving old) (Serving new) now i result =
      HasTaken keeps obeys file clock since failures plan old.core new.core old.book new.book now i result
      × IsDurablySettled keeps (surface (file new.core.disk)) i result × (new.board ≡ old.board)
  HasDelivered (Resting old) (Resting new) now i result = (new ≡ old) × (result ≡ Err Stopped)
  HasDelivered _ _ now i result = ⊥

  -- the desk advanced, and its board shows that
  abbrev pub HasAdvancedIn : PlaceView D → PlaceView D → Interval → ℕ → Published → Type 0
  HasAdvancedIn (Serving old) (Serving new) now to news = HasAdvanced keeps obeys file clock since failures plan old new now to news
  HasAdvancedIn _ _ now to news = ⊥

  -- the desk did not advance, or its board does not show it
  abbrev pub HasNotAdvancedIn : PlaceView D → PlaceView D → Interval → ℕ → Fault → Type 0
  HasNotAdvancedIn (Serving old) (Serving new) now to fault = HasNotAdvanced keeps obeys file clock since failures plan old new now to fault
  HasNotAdvancedIn (Resting old) (Resting new) now to fault = (new ≡ old) × (fault ≡ Stopped)
  HasNotAdvancedIn _ _ now to fault = ⊥

  -- the desk advanced to the latest of the reading, and it serves up to the last time that its board shows
  abbrev pub HasKeptUp : PlaceView D → PlaceView D → Interval → ℕ → Type 0
  HasKeptUp old new now safe = (news : Published) × HasAdvancedIn old new now now.latest news × (safe ≡ safe_on news.list)

  -- the desk was to advance to the latest of the reading, and did not, or its board does not show it
  abbrev pub HasNotKeptUp : PlaceView D → PlaceView D → Interval → Type 0
  HasNotKeptUp old new now = (fault : Fault) × HasNotAdvancedIn old new now now.latest fault

  -- the desk advanced to what it served already, and it serves up to the last time that its board shows
  abbrev pub HasPublished : PlaceView D → PlaceView D → Interval → ℕ → Type 0
  HasPublished old new now safe = (news : Published) × HasAdvancedIn old new now (served_in old now) news × (safe ≡ safe_on news.list)

  -- the desk was to advance to what it served already, and did not, or its board does not show it
  abbrev pub HasNotPublished : PlaceView D → PlaceView D → Interval → Type 0
  HasNotPublished old new now = (fault : Fault) × HasNotAdvancedIn old new now (served_in old now) fault

  -- the desk was asked for the horizon that keeps so many microseconds
  abbrev pub HasKeptIn : PlaceView D → PlaceView D → Interval → ℕ → Result (Unit {0}) Fault → Type 0
  HasKeptIn (Serving old) (Serving new) now micros result = HasKept keeps obeys file clock since failures plan old new now micros result
  HasKeptIn (Resting old) (Resting new) now micros result = (new ≡ old) × (result ≡ Err Stopped)
  HasKeptIn _ _ now micros result = ⊥

  -- the desk turned its log over, or that was refused
  abbrev pub HasTurnedIn : PlaceView D → PlaceView D → Result (Unit {0}) Fault → Type 0
  HasTurnedIn (Serving old) (Serving new) result = HasTurnedOver keeps obeys file clock since failures plan old new result
  HasTurnedIn (Resting old) (Resting new) result = (new ≡ old) × (result ≡ Err Stopped)
  HasTurnedIn _ _ result = ⊥

  -- the desk was asked for that horizon, and turned its log over where it had grown
  abbrev pub HasRenewedIn : PlaceView D → PlaceView D → Interval → ℕ → ℕ → Result (Unit {0}) Fault → Type 0
  HasRenewedIn (Serving old) (Serving new) now micros least result =
      HasRenewed keeps obeys file clock since failures plan old new now micros least result
  HasRenewedIn (Resting old) (Resting new) now micros least result = (new ≡ old) × (result ≡ Err Stopped)
  HasRenewedIn _ _ now micros least result = ⊥
