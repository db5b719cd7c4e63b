-- What a view tells of a key, why it tells nothing, and of which time it is.
use Rattle.std.specs.Prelude.{◌≡◌, ◌⊎◌, ◌+◌, ◌-◌, ◌≤◌, ◌<◌, ℕ, true, false, nat_lt, List, ◌∷◌, length, take, slice_get, slice_set}
use Rattle.std.specs.Prelude.{Option, Some, None, IsTrue, IsSome}
use mathlib.Core.List.{IsPrefix}
use Rattle.truetime.specs.Interval.{Interval}
use Rattle.units.specs.Keys.{Bytes}
use Rattle.units.specs.Looks.{IsRefusedLook}
use Rattle.units.specs.declared.fault.Fault.{Fault}
use Rattle.units.specs.declared.fault.Fault.TheVariants.{Memory, Room, Stopped}
use Rattle.units.specs.declared.line.Seen.{Seen}
use Rattle.units.specs.declared.line.Seen.TheVariants.{Absent, Value}
use Rattle.board.specs.Board.{is_board, horizon_on, safe_on, shown_at}
use Rattle.board.specs.Look.{AnswerStays, is_at_home}
use Rattle.board.specs.Views.{Viewing}
use Rattle.board.specs.declared.entry.BoardEntry.{BoardEntry}
use Rattle.board.specs.declared.home.Home.{Home}
use Rattle.store.specs.Attempts.{Worker}

-- what a look has put into a buffer
abbrev pub seen_in : Seen → List ℕ → Option Bytes
seen_in Absent buffer = None
seen_in (Value n) buffer = Some (take n buffer)

-- a viewer behind some looks: of the same board and shard, told of no more, and it has seen what it had seen, or more
pub record IsLater (viewer after : Viewing) : Type 0 where
  pub board : after.board ≡ viewer.board
  pub home : after.home ≡ viewer.home
  pub told : after.told ≡ viewer.told
  pub seen : IsPrefix viewer.seen after.seen

-- A viewer behind a look that was answered or refused by a list of its board: the one that it has seen last. It begins with all that the viewer
-- has seen and was told of before.
pub record IsNewest (viewer after : Viewing) : Type 0 where
  pub later : IsLater viewer after
  pub told : IsPrefix viewer.told after.seen
  pub lawful : is_board after.seen ≡ true

-- The value of a key at a timestamp by the list of its shard's board that the viewer has seen last, which serves the timestamp and has not
-- forgotten it. Every longer list of the board gives the same value.
pub record IsShown (viewer after : Viewing) (key : Bytes) (at : ℕ) (value : Option Bytes) : Type 0 where
  pub newest : IsNewest viewer after
  pub home : is_at_home viewer.home key ≡ true
  pub recent : nat_lt at (horizon_on after.seen) ≡ false
  pub served : nat_lt (safe_on after.seen) at ≡ false
  pub shows : shown_at after.seen key at ≡ value
  pub stays : AnswerStays key at after.seen

-- the list has a value of the key at the timestamp, which it serves and has not forgotten; but there is no room, or no memory, for the value
abbrev pub IsTooMuch : Home → List BoardEntry → Bytes → ℕ → Fault → Type 0
IsTooMuch home list key at fault =
    ((fault ≡ Room) ⊎ (fault ≡ Memory)) × IsTrue (is_at_home home key) × (horizon_on list ≤ at) × (at ≤ safe_on list) × IsSome (shown_at list key at)

-- a timestamp is not below the horizon of the list of the shard's board that the viewer has seen last, and the list does not serve it
abbrev pub IsUnserved : Viewing → Viewing → Bytes → ℕ → Type 0
IsUnserved viewer after key at =
    IsNewest viewer after × IsTrue (is_at_home viewer.home key) × (horizon_on after.seen ≤ at) × (safe_on after.seen < at)

-- Why a view does not tell the value of a key at a timestamp. By the list of its shard's board that the viewer has seen last, a look is refused:
-- the key belongs elsewhere, the timestamp is below the horizon, or it is not served; or the value is too much. Or the shard has stopped: that
-- list does not serve the timestamp, or the board gives no entry and has shown nothing.
abbrev pub IsUnseenBy : Viewing → Viewing → Bytes → ℕ → Fault → Type 0
IsUnseenBy viewer after key at fault =
    (IsNewest viewer after
    × (IsRefusedLook (is_at_home viewer.home key) (horizon_on after.seen) (safe_on after.seen) at fault ⊎ IsTooMuch viewer.home after.seen key at fault))
    ⊎ ((fault ≡ Stopped) × (IsUnserved viewer after key at ⊎ (after ≡ viewer)))

-- of some viewers by shard, the one of this shard has looked, and no other one: what it was and has become keeps this
abbrev pub LookedAt : List Viewing → List Viewing → ℕ → (Viewing → Viewing → Type 0) → Type 0
LookedAt old new shard P =
    (viewer : Viewing) × (slice_get old shard ≡ Some viewer) × ((after : Viewing) × (new ≡ slice_set old shard after) × P viewer after)

-- The timestamp of a view that the client opens, by all that its clock has told since: the latest of one reading more than before the call. It
-- is no earlier than the timestamp from which the clock goes on, and the reading is a microsecond of the machine, and an epsilon on either side,
-- or it ends later.
abbrev pub IsPresent : Worker → List Interval → ℕ → Type 0
IsPresent w told at =
    (w.from ≤ at)
    × ((now : Interval) × (told ≡ now ∷ w.readings) × (now.latest ≡ at)
    × ((micros : ℕ) × (now.earliest ≡ micros - w.epsilon) × (micros + w.epsilon ≤ at)))

-- the keys of a shard between splits
abbrev pub home_at : List Bytes → ℕ → Home
home_at splits shard = record { splits = splits; shard = shard }

-- Some viewers by shard, once what is new was put in their places: each is what it was, or one that shows the keys of its shard.
pub record AreRenewed (splits : List Bytes) (old new : List Viewing) : Type 0 where
  pub count : length new ≡ length old
  pub each : (shard : ℕ) (viewer : Viewing) → slice_get new shard ≡ Some viewer
      → (slice_get old shard ≡ Some viewer) ⊎ (viewer.home ≡ home_at splits shard)
