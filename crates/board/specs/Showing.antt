-- One showing of all that came, by the spare copy.
use Rattle.std.specs.Prelude.{◌≡◌, true, List, [], fold, Result, MatchResult}
use Rattle.board.specs.declared.change.BoardChange.{BoardChange}
use Rattle.board.specs.Board.{is_board}
use Rattle.board.specs.State.{Page, board_state, IsLater, after_board_change}
use Rattle.board.specs.OneList.{IsFair}

-- The board may go on by these changes: its list only grows, and it stays lawful.
abbrev pub MayShow : Page → List BoardChange → Type 0
MayShow page changes = (next : Page) → board_state next ≡ fold after_board_change (board_state page) changes →
    IsLater (board_state next) (board_state page) × (IsFair page → (is_board next.list ≡ true) × (is_board next.ahead ≡ true))

-- what it comes to, where there was memory for all and where there was not
abbrev pub ShowingGives : {A B : Type 0} → Page → Page → List BoardChange → List BoardChange → Result A B → Type 0
ShowingGives x y changes changes' result = MatchResult result
    (λ _. (board_state y ≡ fold after_board_change (board_state x) changes) × (changes' ≡ [])) (λ _. (y ≡ x) × (changes' ≡ changes))
