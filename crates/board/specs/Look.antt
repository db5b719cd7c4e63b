-- What a look at a board answers.
use Rattle.std.specs.Prelude.{◌≡◌, ℕ, Bool, true, List, ◌++◌, nat_eq, Result}
use Rattle.units.specs.Keys.{Bytes, shard_of}
use Rattle.units.specs.Looks.{look_answer_with, look_buffer_with}
use Rattle.units.specs.declared.fault.Fault.{Fault}
use Rattle.units.specs.declared.line.Seen.{Seen}
use Rattle.board.specs.declared.entry.BoardEntry.{BoardEntry}
use Rattle.board.specs.declared.home.Home.{Home}
use Rattle.board.specs.Board.{safe_on, horizon_on, shown_at, is_board}

-- the key belongs to this shard
abbrev pub is_at_home : Home → Bytes → Bool
is_at_home home key = nat_eq (shard_of home.splits key) home.shard

-- a look for a key at a timestamp: the answer, and the buffer afterwards
abbrev pub look_answer : Home → List BoardEntry → Bytes → ℕ → ℕ → Result Seen Fault
look_answer home entries key at room =
    look_answer_with (is_at_home home key) (horizon_on entries) (safe_on entries) (shown_at entries key at) at room

abbrev pub look_buffer : Home → List BoardEntry → Bytes → ℕ → List ℕ → List ℕ
look_buffer home entries key at buffer =
    look_buffer_with (is_at_home home key) (horizon_on entries) (safe_on entries) (shown_at entries key at) at buffer

-- Every longer list of the board gives the same value of the key at the timestamp: a list keeps all its versions. Where its horizon is above
-- the timestamp its look is `TooOld`, and gives no value.
abbrev pub AnswerStays : Bytes → ℕ → List BoardEntry → Type 0
AnswerStays key at entries = (more : List BoardEntry) → is_board (entries ++ more) ≡ true → shown_at (entries ++ more) key at ≡ shown_at entries key at
