-- What a view tells of the versions of a key.
use Rattle.std.specs.Prelude.{◌≡◌, ◌⊎◌, ◌≤◌, ℕ, cond, filter, nat_le, List, Option}
use Rattle.units.specs.Keys.{Bytes}
use Rattle.units.specs.declared.fault.Fault.{Fault}
use Rattle.units.specs.declared.writes.Install.{Install}
use Rattle.board.specs.Board.{shown_at}
use Rattle.board.specs.Histories.{IsHistory}
use Rattle.board.specs.Look.{AnswerStays}
use Rattle.board.specs.Pages.{IsServed}
use Rattle.board.specs.Views.{Viewing}
use Rattle.store.specs.Ranges.{IsUnlistedBy}
use Rattle.store.specs.Views.{IsNewest, IsUnserved}

-- the earlier of two times
abbrev pub earlier : ℕ → ℕ → ℕ
earlier a b = cond (nat_le a b) a b

-- the versions of a history that are not after the last time; those after it would give the same values up to there
abbrev pub IsHistoryUpTo : (ℕ → Option Bytes) → Bytes → ℕ → ℕ → List Install → Option ℕ → Type 0
IsHistoryUpTo values key from to versions next =
    (all : List Install) × (versions ≡ filter (λ version. nat_le version.at to) all) × IsHistory values key from to all next

-- The versions of a key from a first time to a last by the list of its shard's board that the viewer has seen last. The list serves both times and
-- has forgotten neither. None is after the last time. Every longer list of the board gives the same values.
pub record IsToldBy (viewer after : Viewing) (key : Bytes) (from to : ℕ) (versions : List Install) (next : Option ℕ) : Type 0 where
  pub newest : IsNewest viewer after
  pub first : IsServed viewer.home after.seen key from
  pub last : IsServed viewer.home after.seen key to
  pub history : IsHistoryUpTo (shown_at after.seen key) key from to versions next
  pub stays : (at : ℕ) → at ≤ to → AnswerStays key at after.seen

-- Why a view tells no versions: there is no memory, or it would not tell the value of the key at the first time, or at the last.
abbrev pub IsUntoldBy : Viewing → Viewing → Bytes → ℕ → ℕ → Fault → Type 0
IsUntoldBy viewer after key from to fault = IsUnlistedBy viewer after key from fault ⊎ IsUnlistedBy viewer after key to fault

-- The list that the viewer has seen last does not serve the first time, or not the last.
abbrev pub IsEarly : Viewing → Viewing → Bytes → ℕ → ℕ → Type 0
IsEarly viewer after key from to = IsUnserved viewer after key from ⊎ IsUnserved viewer after key to
