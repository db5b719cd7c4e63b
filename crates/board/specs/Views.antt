-- What a contract sees of a viewer, of a publisher and of news.
use Rattle.std.specs.Prelude.{◌≡◌, ℕ, true, List, [], ◌∷◌, ◌++◌, length, All, Result, MatchResult, IsOk}
use mathlib.Core.List.{IsPrefix}
use Rattle.board.specs.declared.entry.BoardEntry.{BoardEntry}
use Rattle.board.specs.declared.home.Home.{Home}
use Rattle.units.specs.declared.fault.Fault.{Fault}
use Rattle.units.specs.declared.fault.Fault.TheVariants.{Memory}
use Rattle.units.specs.declared.line.Seen.{Seen}
use Rattle.board.specs.Board.{is_board}
use Rattle.board.specs.Look.{look_answer, look_buffer, AnswerStays}
use Rattle.board.specs.State.{BoardId}
use Rattle.board.specs.OneList.{SeenStates}

-- The board, the list of the last look, the longest list that was told, and the keys that belong here.
-- A new viewer has the list that the board began with for both.
pub record Viewing : Type 0 where
  pub board : BoardId
  pub seen : List BoardEntry
  pub told : List BoardEntry
  pub home : Home

-- a viewer that knows of a list, and of no longer one
abbrev pub new_viewer : BoardId → List BoardEntry → Home → Viewing
new_viewer board list home = record { board = board; seen = list; told = list; home = home }

-- so many viewers, all alike
abbrev pub AreViewers : ℕ → Viewing → List Viewing → Type 0
AreViewers n viewer viewers = (length viewers ≡ n) × All (λ v. v ≡ viewer) viewers

abbrev pub newest_of : SeenStates → List BoardEntry
newest_of [] = []
newest_of (s ∷ ss) = s.0

abbrev pub ahead_of : SeenStates → List BoardEntry
ahead_of [] = []
ahead_of (s ∷ ss) = s.1

-- just one state of the board is known
abbrev pub IsOneState : SeenStates → BoardId → Type 0
IsOneState known board = known ≡ (newest_of known, ahead_of known, board) ∷ []

-- The list that the viewer has seen afterwards answers the look. It begins with the list of its last look and with each list
-- that it was told of.
pub record LookedBy
    (viewer : Viewing) (key : List ℕ) (t : ℕ) (buffer : List ℕ) (result : Result Seen Fault) (viewer' : Viewing) (buffer' : List ℕ) : Type 0 where
  pub later : IsPrefix viewer.seen viewer'.seen
  pub told : IsPrefix viewer.told viewer'.seen
  pub lawful : is_board viewer'.seen ≡ true
  pub answered : result ≡ look_answer viewer.home viewer'.seen key t (length buffer)
  pub filled : buffer' ≡ look_buffer viewer.home viewer'.seen key t buffer
  pub stays : IsOk result → AnswerStays key t viewer'.seen

-- What a contract sees of a publisher: the board, the list that viewers see, and the entries that were accepted since.
pub record Publishing : Type 0 where
  pub board : BoardId
  pub published : List BoardEntry
  pub pending : List BoardEntry

-- the entry may be accepted: the list with it is a board's
abbrev pub MayAccept : Publishing → BoardEntry → Type 0
MayAccept p entry = is_board (p.published ++ p.pending ++ entry ∷ []) ≡ true

-- one more entry is accepted
abbrev pub accepting : Publishing → BoardEntry → Publishing
accepting p entry = record p { pending = p.pending ++ entry ∷ [] }

-- all that was accepted is published
abbrev pub publishing_all : Publishing → Publishing
publishing_all p = record p { published = p.published ++ p.pending; pending = [] }

-- What a contract sees of news: the board and a list that it has published.
pub record Published : Type 0 where
  pub board : BoardId
  pub list : List BoardEntry

-- the news of what is published
abbrev pub news_of : Publishing → Published
news_of p = record { board = p.board; list = p.published }

-- all that was accepted is published, with news of it; or nothing has changed, for want of memory
abbrev pub PublishesAll : Publishing → Result Published Fault → Publishing → Type 0
PublishesAll old result new =
    MatchResult result (λ told. (new ≡ publishing_all old) × (told ≡ news_of (publishing_all old))) (λ fault. (fault ≡ Memory) × (new ≡ old))
