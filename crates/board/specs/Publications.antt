-- What the publishing of a board's accepted entries comes to.
use Rattle.std.specs.Prelude.{◌≡◌, true, List, [], ◌++◌, Result, MatchResult}
use mathlib.Core.List.{IsPrefix}
use Rattle.units.specs.declared.fault.Fault.{Fault}
use Rattle.units.specs.declared.fault.Fault.TheVariants.{Memory}
use Rattle.board.specs.declared.change.BoardChange.{BoardChange}
use Rattle.board.specs.State.{Page, board_state, is_quiet, pending_of}
use Rattle.board.specs.Views.{Published}

-- The board shows its list with all that was accepted, and nothing is pending.
pub record IsShown (before : Page) (changes : List BoardChange) (told : Published) (after : Page) (changes' : List BoardChange) : Type 0 where
  pub shows : board_state after ≡ (before.list ++ pending_of before changes, before.list ++ pending_of before changes, before.board)
  pub none : changes' ≡ []
  pub news : told ≡ record { board = before.board; list = before.list ++ pending_of before changes }

-- The board shows what it showed, and the same entries are pending.
pub record IsRefused (before : Page) (changes : List BoardChange) (fault : Fault) (after : Page) (changes' : List BoardChange) : Type 0 where
  pub memory : fault ≡ Memory
  pub list : after.list ≡ before.list
  pub board : after.board ≡ before.board
  pub pending : pending_of after changes' ≡ pending_of before changes
  pub quiet : is_quiet changes' ≡ true
  pub longer : IsPrefix after.list after.ahead

abbrev pub IsPublished : Page → List BoardChange → Result Published Fault → Page → List BoardChange → Type 0
IsPublished before changes result after changes' = MatchResult result (λ told. IsShown before changes told after changes')
    (λ fault. IsRefused before changes fault after changes')

-- The same where all that was accepted is prepared.
abbrev pub IsFinished : Page → Result Published Fault → Page → List BoardChange → Type 0
IsFinished before result after changes' =
    MatchResult result
    (λ told. (board_state after ≡ (before.ahead, before.ahead, before.board)) × (changes' ≡ []) × (told ≡ record { board = before.board; list = before.ahead }))
    (λ fault. (fault ≡ Memory) × (after ≡ before) × (changes' ≡ []))
