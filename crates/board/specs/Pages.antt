-- Pages of the keys that have a value, told by the values that keys have.
use Rattle.std.specs.Prelude.{◌≡◌, ℕ, ◌≤◌, Bool, true, false, cond, List, Option, Some, None, IsSome, All, IsOk, IfOk, IfErr, Result, ◌⊎◌}
use mathlib.Core.List.{IsPrefix}
use Rattle.units.specs.Keys.{Bytes, key_before, has_key}
use Rattle.units.specs.Lists.{ascends}
use Rattle.units.specs.Looks.{IsRefusedLook}
use Rattle.units.specs.Versions.{at_time}
use Rattle.units.specs.declared.fault.Fault.{Fault}
use Rattle.units.specs.declared.fault.Fault.TheVariants.{Memory}
use Rattle.units.specs.declared.writes.Install.{Install}
use Rattle.board.specs.declared.entry.BoardEntry.{BoardEntry}
use Rattle.board.specs.declared.home.Home.{Home}
use Rattle.board.specs.declared.pages.KeyPage.{KeyPage}
use Rattle.board.specs.Board.{is_board, versions_on, safe_on, horizon_on}
use Rattle.board.specs.Look.{is_at_home, AnswerStays}
use Rattle.board.specs.Views.{Viewing}

-- the value of a key at a timestamp by these versions, and none of a key that belongs elsewhere
abbrev pub value_by : Home → List Install → ℕ → Bytes → Option Bytes
value_by home installs at key = cond (is_at_home home key) (at_time installs key at) None

-- the same by what a board shows
abbrev pub value_at_home : Home → List BoardEntry → ℕ → Bytes → Option Bytes
value_at_home home entries at key = value_by home (versions_on entries) at key

-- the key is before the end; where there is no end, each key is
abbrev pub is_before : Bytes → Option Bytes → Bool
is_before key None = true
is_before key (Some end) = key_before key end

-- a key, if it is before the end
abbrev pub cut_off : Option Bytes → Option Bytes → Option Bytes
cut_off None to = None
cut_off (Some key) to = cond (is_before key to) (Some key) None

-- the key is among those of a range that are before the next page
pub record IsWithin (from : Bytes) (to next : Option Bytes) (key : Bytes) : Type 0 where
  pub since : key_before key from ≡ false
  pub until : is_before key to ≡ true
  pub earlier : is_before key next ≡ true

-- These keys are those that have a value, each once and in order, of all that are not before the first of a range, are before its end, and
-- are before the next page.
pub record AreListed (values : Bytes → Option Bytes) (from : Bytes) (to next : Option Bytes) (keys : List Bytes) : Type 0 where
  pub valued : All (λ key. IsSome (values key)) keys
  pub within : All (λ key. IsWithin from to next key) keys
  pub order : ascends key_before keys ≡ true
  pub whole : (key : Bytes) → IsWithin from to next key → IsSome (values key) → has_key keys key ≡ true

-- A page lists the keys up to the next page. The next page begins after the first key of the range and before its end, so pages come to an end.
pub record IsPage (values : Bytes → Option Bytes) (from : Bytes) (to : Option Bytes) (keys : List Bytes) (next : Option Bytes) : Type 0 where
  pub listed : AreListed values from to next keys
  pub onward : (key : Bytes) → next ≡ Some key → (key_before from key ≡ true) × (is_before key to ≡ true)

-- A page that is begun goes on so. Its next key may be the first of the range.
abbrev pub GoesOn : (Bytes → Option Bytes) → Option Bytes → List Bytes → Option Bytes → List Bytes → Option Bytes → Type 0
GoesOn values to keys next keys' next' = (from : Bytes) → AreListed values from to next keys
    → ((key : Bytes) → next ≡ Some key → (key_before key from ≡ false) × (is_before key to ≡ true)) → IsPage values from to keys' next'

-- A look for the key is answered at the timestamp.
pub record IsServed (home : Home) (entries : List BoardEntry) (key : Bytes) (at : ℕ) : Type 0 where
  pub here : is_at_home home key ≡ true
  pub since : horizon_on entries ≤ at
  pub until : at ≤ safe_on entries

-- There is no memory, or a look for the key is refused at the timestamp.
abbrev pub IsUnlisted : Home → List BoardEntry → Bytes → ℕ → Fault → Type 0
IsUnlisted home entries key at fault = (fault ≡ Memory) ⊎ IsRefusedLook (is_at_home home key) (horizon_on entries) (safe_on entries) at fault

-- The list that the viewer has seen afterwards answers as it answers a look for the first key of the range. Each longer list gives the same values.
pub record ListedBy (viewer : Viewing) (from : Bytes) (to : Option Bytes) (at : ℕ) (result : Result KeyPage Fault) (viewer' : Viewing) : Type 0 where
  pub later : IsPrefix viewer.seen viewer'.seen
  pub told : IsPrefix viewer.told viewer'.seen
  pub lawful : is_board viewer'.seen ≡ true
  pub page : IfOk result (λ page. IsPage (value_at_home viewer.home viewer'.seen at) from to page.keys.items page.next)
  pub served : IsOk result → IsServed viewer.home viewer'.seen from at
  pub refused : IfErr result (IsUnlisted viewer.home viewer'.seen from at)
  pub stays : IsOk result → (key : Bytes) → AnswerStays key at viewer'.seen
