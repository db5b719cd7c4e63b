-- What a contract sees of a copy of a board, and what both copies have in common.
use Rattle.std.specs.Prelude.{◌≡◌, ℕ, Bool, true, false, List, [], ◌∷◌, ◌++◌, length, drop, max, Result, MatchResult}
use mathlib.Core.List.{IsPrefix}
use Rattle.units.specs.declared.fault.Fault.{Fault}
use Rattle.units.specs.declared.fault.Fault.TheVariants.{Memory}
use Rattle.units.specs.declared.writes.Install.{Install}
use Rattle.versions.specs.Places.{SameFrom}
use Rattle.board.specs.declared.entry.BoardEntry.{BoardEntry}
use Rattle.board.specs.declared.change.BoardChange.{BoardChange}
use Rattle.board.specs.declared.change.BoardChange.TheVariants.{Prepare, Commit}

-- Which board it is: the names of its two histories.
abbrev pub BoardId : Type 0
BoardId = ℕ × ℕ

-- A copy: its board, whether it is the second of the two, its list of entries, and that list with the entries that are prepared.
pub record Page : Type 0 where
  pub board : BoardId
  pub second : Bool
  pub list : List BoardEntry
  pub ahead : List BoardEntry

-- it has gone on so; or it is as it was, for want of memory
abbrev pub Takes : {A T : Type 0} → A → A → Result T Fault → A → Type 0
Takes old taken result new = MatchResult result (λ _. new ≡ taken) (λ fault. (fault ≡ Memory) × (new ≡ old))

-- its list is this, and nothing more is prepared
abbrev pub HasList : Page → List BoardEntry → Type 0
HasList page entries = (page.list ≡ entries) × (page.ahead ≡ entries)

abbrev pub BoardState : Type 0
BoardState = List BoardEntry × List BoardEntry × BoardId

abbrev pub board_state : Page → BoardState
board_state p = (p.list, p.ahead, p.board)

-- it is of the same board, and its list begins with the earlier one
abbrev pub IsLater : BoardState → BoardState → Type 0
IsLater now earlier = IsPrefix earlier.0 now.0 × (earlier.2 ≡ now.2)

-- A change of a board: an entry is prepared, or what is prepared is shown.
abbrev pub after_board_change : BoardState → BoardChange → BoardState
after_board_change s (Prepare e) = (s.0, s.1 ++ e ∷ [], s.2)
after_board_change s Commit = (s.1, s.1, s.2)

-- the entries that are prepared, where nothing is shown
abbrev pub newly_prepared : List BoardChange → List BoardEntry
newly_prepared [] = []
newly_prepared (Prepare e ∷ cs) = e ∷ newly_prepared cs
newly_prepared (Commit ∷ cs) = newly_prepared cs

abbrev pub is_quiet : List BoardChange → Bool
is_quiet [] = true
is_quiet (Prepare e ∷ cs) = is_quiet cs
is_quiet (Commit ∷ cs) = false

-- the entries that were accepted since those of the list: the prepared ones, and those of the changes that no copy has yet
abbrev pub pending_of : Page → List BoardChange → List BoardEntry
pending_of page changes = drop (length page.list) page.ahead ++ newly_prepared changes

-- one more version answers in order as it does at the end of the log, from the horizon up
abbrev pub AddsVersion : ℕ → List Install → List Install → Install → Type 0
AddsVersion horizon old new install = (log : List Install) → SameFrom horizon old log → SameFrom horizon new (log ++ install ∷ [])

-- the versions answer from the later of two horizons up as they did from the first
abbrev pub Forgets : List Install → List Install → ℕ → ℕ → Type 0
Forgets old new before horizon = (log : List Install) → SameFrom before old log → SameFrom (max before horizon) new log
