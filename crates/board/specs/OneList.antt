-- The rule of a board: its list is lawful, also with what is prepared; it has a safe timestamp; and it begins with each list that a thread knows of.
use Rattle.std.specs.Prelude.{◌≡◌, ℕ, true, List, [], ◌∷◌, All}
use mathlib.Core.Option.{some}
use lib.ListN.{get_elem?}
use Rattle.board.specs.Board.{is_board, has_safe}
use Rattle.board.specs.State.{Page, BoardState, board_state, IsLater}

-- the states of the board that a thread knows of
abbrev pub SeenStates : Type 0
SeenStates = List BoardState

abbrev pub IsLaterThanAll : BoardState → SeenStates → Type 0
IsLaterThanAll now known = All (λ s. IsLater now s) known

-- what is shown, and that with what is prepared, are lawful
pub record IsFair (page : Page) : Type 0 where
  pub list : is_board page.list ≡ true
  pub ahead : is_board page.ahead ≡ true
  pub safe : has_safe page.list ≡ true

abbrev pub KeepsOneList : Page → List SeenStates → Type 0
KeepsOneList page views = IsFair page × ((seat : ℕ) (known : SeenStates) → get_elem? views seat ≡ some known → IsLaterThanAll (board_state page) known)

-- After a step the thread knows of the board's state, which follows all that it knew of.
abbrev pub Sees : SeenStates → Page → Page → SeenStates → Type 0
Sees known before after known' = IsLaterThanAll (board_state after) known × (known' ≡ board_state after ∷ []) × IsFair after
