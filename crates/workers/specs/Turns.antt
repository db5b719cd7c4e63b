-- The lines that a worker's turns leave, and what it buffers.
use Rattle.std.specs.Prelude.{◌≡◌, ◌<◌, ℕ, zero, suc, ◌+◌, ◌-◌, ◌^◌, Bool, true, false, List, [], ◌∷◌, ◌++◌, length, map, filter, Option, None, Some}
use Rattle.std.specs.Fmt.{decimal}
use Rattle.units.specs.Ids.{Id}
use Rattle.units.specs.Keys.{Bytes}
use Rattle.units.specs.declared.line.Line.{Line}
use Rattle.units.specs.declared.line.Line.TheVariants.{Begin, Ack, Read, Look}
use Rattle.units.specs.declared.writes.Write.{Write}
use Rattle.progress.specs.declared.turn.Ended.{Ended}
use Rattle.progress.specs.declared.turn.Ended.TheVariants as ended
use Rattle.session.specs.Sessions.{with_write}
use Rattle.client.specs.declared.ended.Ended.{Ended as Finish}
use Rattle.client.specs.declared.ended.Ended.TheVariants as finish
use Rattle.workers.specs.declared.reads.Asked.{Asked}
use Rattle.workers.specs.Keys.{turn_keys}

abbrev pub is_begin : Line → Bool
is_begin (Begin txn moment) = true
is_begin _ = false

abbrev pub is_ack : Line → Bool
is_ack (Ack txn at moment) = true
is_ack _ = false

abbrev pub is_read : Line → Bool
is_read (Read txn key value) = true
is_read _ = false

abbrev pub is_look : Line → Bool
is_look (Look key at value) = true
is_look _ = false

-- how many lines are of a kind
abbrev pub count : (Line → Bool) → List Line → ℕ
count kind lines = length (filter kind lines)

-- the keys that were asked for
abbrev pub asked_keys : List Asked → List Bytes
asked_keys asked = map (λ a. a.key) asked

-- the lines of the answers
abbrev pub read_lines : Id → List Asked → List Line
read_lines txn asked = map (λ a. Read txn a.key a.value) asked

-- what is written follows what was read: one more than the number, where no value counts 0
pub record IsNext (read : Option Bytes) (next : Bytes) : Type 0 where
  pub none : read ≡ None → next ≡ decimal 1
  pub number : (n : ℕ) → n < 2 ^ 64 - 1 → read ≡ Some (decimal n) → next ≡ decimal (n + 1)

-- some writes, behind the buffering of what follows an answer
abbrev pub IsNextOf : Asked → List Write → List Write → Type 0
IsNextOf a old new = (next : Bytes) × IsNext a.value next × (new ≡ with_write old (record { key = a.key; value = Some next }))

-- the same behind some answers, one after the other
abbrev pub AreNext : List Asked → List Write → List Write → Type 0
AreNext [] old new = new ≡ old
AreNext (a ∷ rest) old new = (one : List Write) × IsNextOf a old one × AreNext rest one new

-- the lines of a commit: its acknowledgement, and what each key showed
pub record IsAcknowledged (txn : Id) (keys : List Bytes) (lines : List Line) : Type 0 where
  pub at : ℕ
  pub moment : ℕ
  pub answers : List (Bytes × Option Bytes)
  pub same : map (λ a. a.0) answers ≡ keys
  pub whole : lines ≡ Ack txn at moment ∷ map (λ a. Read txn (a.0) (a.1)) answers

-- the lines of a transaction's end: only a commit has any
abbrev pub IsEnd : Ended → Id → List Bytes → List Line → Type 0
IsEnd ended.Committed txn keys lines = IsAcknowledged txn keys lines
IsEnd ended.Aborted txn keys lines = lines ≡ []
IsEnd ended.Unknown txn keys lines = lines ≡ []

-- how a transaction ended as it heard, with the lines of its answers
abbrev pub IsReported : Finish → Id → List Asked → Ended → List Line → Type 0
IsReported (finish.Committed at) txn asked end lines =
    (end ≡ ended.Committed) × ((moment : ℕ) × (lines ≡ Ack txn at moment ∷ read_lines txn asked))
IsReported finish.Aborted txn asked end lines = (end ≡ ended.Aborted) × (lines ≡ [])
IsReported (finish.Unknown _) txn asked end lines = (end ≡ ended.Unknown) × (lines ≡ [])

-- the lines of a transaction over some keys: its begin, and those of its end
pub record IsTransaction (keys : List Bytes) (end : Ended) (lines : List Line) : Type 0 where
  pub txn : Id
  pub moment : ℕ
  pub behind : List Line
  pub whole : lines ≡ Begin txn moment ∷ behind
  pub ends : IsEnd end txn keys behind

-- the line of an answered look at the first of some keys
pub record IsLook (keys : List Bytes) (lines : List Line) : Type 0 where
  pub key : Bytes
  pub others : List Bytes
  pub at : ℕ
  pub value : Option Bytes
  pub first : keys ≡ key ∷ others
  pub whole : lines ≡ Look key at value ∷ []

abbrev pub IsLooked : Bool → List Bytes → List Line → Type 0
IsLooked true keys lines = IsLook keys lines
IsLooked false keys lines = lines ≡ []

-- the lines of a turn over some keys
pub record IsTurn (keys : List Bytes) (end : Ended) (answered : Bool) (lines : List Line) : Type 0 where
  pub transaction : List Line
  pub look : List Line
  pub whole : lines ≡ transaction ++ look
  pub transacted : IsTransaction keys end transaction
  pub looked : IsLooked answered keys look

-- the lines of a worker's turns before this one, each over its own keys, of so many in all
abbrev pub AreTurns : ℕ → ℕ → ℕ → List Line → Type 0
AreTurns keys worker zero lines = lines ≡ []
AreTurns keys worker (suc turn) lines =
    (before own : List Line) × (end : Ended) × (answered : Bool) × (lines ≡ before ++ own) × AreTurns keys worker turn before
    × IsTurn (turn_keys keys worker turn) end answered own
