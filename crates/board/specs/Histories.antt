-- The versions of one key, told by the values that it has.
use Rattle.std.specs.Prelude.{◌≡◌, ℕ, ◌<◌, ◌≤◌, Bool, true, nat_lt, List, Option, Some, None, All, IsOk, IfOk, IfErr, Result, ◌⊎◌}
use mathlib.Core.List.{IsPrefix}
use Rattle.units.specs.Keys.{Bytes}
use Rattle.units.specs.Lists.{ascends}
use Rattle.units.specs.Versions.{at_time}
use Rattle.units.specs.declared.fault.Fault.{Fault}
use Rattle.units.specs.declared.writes.Install.{Install}
use Rattle.board.specs.declared.history.History.{History}
use Rattle.board.specs.declared.entry.BoardEntry.{BoardEntry}
use Rattle.board.specs.declared.home.Home.{Home}
use Rattle.board.specs.Board.{is_board, shown_at}
use Rattle.board.specs.Look.{AnswerStays}
use Rattle.board.specs.Pages.{IsServed, IsUnlisted}
use Rattle.board.specs.Views.{Viewing}

-- the time comes before what is next; if nothing is, each does
abbrev pub is_earlier : ℕ → Option ℕ → Bool
is_earlier at None = true
is_earlier at (Some next) = nat_lt at next

-- the first version is earlier than the second
abbrev pub earlier_version : Install → Install → Bool
earlier_version a b = nat_lt a.at b.at

-- From a time on the values stay as they are then, up to the end or until the next time. That comes after the time, and not after the end.
abbrev pub IsNextTime : (ℕ → Option Bytes) → ℕ → ℕ → Option ℕ → Type 0
IsNextTime values at to None = (time : ℕ) → at ≤ time → time ≤ to → values time ≡ values at
IsNextTime values at to (Some next) = (at < next) × (next ≤ to) × ((time : ℕ) → at ≤ time → time < next → values time ≡ values at)

-- It is a version of the key, and earlier than what is next.
pub record IsListed (key : Bytes) (next : Option ℕ) (version : Install) : Type 0 where
  pub own : version.key ≡ key
  pub earlier : is_earlier version.at next ≡ true

-- These versions of the key ascend. They give the value that it has at each time from the first to the last, up to what is next.
pub record AreVersions (values : ℕ → Option Bytes) (key : Bytes) (from to : ℕ) (next : Option ℕ) (versions : List Install) : Type 0 where
  pub each : All (IsListed key next) versions
  pub order : ascends earlier_version versions ≡ true
  pub same : (at : ℕ) → from ≤ at → at ≤ to → is_earlier at next ≡ true → at_time versions key at ≡ values at

-- The versions up to the next part, which begins after the first time and not after the last: so the parts come to an end.
pub record IsHistory (values : ℕ → Option Bytes) (key : Bytes) (from to : ℕ) (versions : List Install) (next : Option ℕ) : Type 0 where
  pub listed : AreVersions values key from to next versions
  pub onward : (at : ℕ) → next ≡ Some at → (from < at) × (at ≤ to)

-- What is begun goes on so. What is next may be the first time.
abbrev pub Continues : (ℕ → Option Bytes) → Bytes → ℕ → List Install → Option ℕ → List Install → Option ℕ → Type 0
Continues values key to versions next versions' next' = (from : ℕ) → AreVersions values key from to next versions
    → ((at : ℕ) → next ≡ Some at → (from ≤ at) × (at ≤ to)) → IsHistory values key from to versions' next'

-- what a key has from a first time to a last by what a board shows, if a look for it is answered at both
pub record TellsHistory (home : Home) (entries : List BoardEntry) (key : Bytes) (from to : ℕ) (result : Result History Fault) : Type 0 where
  pub history : IfOk result (λ history. IsHistory (shown_at entries key) key from to history.versions.items history.next)
  pub served : IsOk result → IsServed home entries key from × IsServed home entries key to
  pub refused : IfErr result (λ fault. IsUnlisted home entries key from fault ⊎ IsUnlisted home entries key to fault)

-- The list that the viewer has seen afterwards tells it. Each longer list gives the same values.
pub record ToldBy (viewer : Viewing) (key : Bytes) (from to : ℕ) (result : Result History Fault) (viewer' : Viewing) : Type 0 where
  pub later : IsPrefix viewer.seen viewer'.seen
  pub told : IsPrefix viewer.told viewer'.seen
  pub lawful : is_board viewer'.seen ≡ true
  pub answered : TellsHistory viewer.home viewer'.seen key from to result
  pub stays : IsOk result → (at : ℕ) → at ≤ to → AnswerStays key at viewer'.seen
