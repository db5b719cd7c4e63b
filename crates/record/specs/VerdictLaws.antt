-- What the inspector's verdicts mean: a yes clause by clause, and each no by the fault that it names.
use Rattle.std.specs.Prelude.{ℕ, ◌≡◌, IsTrue, IsFalse, true, false, nat_lt, nat_le, List, slice_get, Option, Some}
use Rattle.units.specs.Ids.{Id}
use Rattle.units.specs.Keys.{Bytes}
use Rattle.units.specs.declared.line.Line.{Line}
use Rattle.units.specs.declared.line.Line.TheVariants.{Begin, Ack, Read, Look}
use Rattle.units.specs.declared.line.Verdict.{Verdict}
use Rattle.units.specs.declared.line.Verdict.TheVariants.{Yes, Torn, Lost, WrongRead, WrongOrder}
use Rattle.record.specs.History.{Txn, history, before, upto, find_txn}
use Rattle.record.specs.Serially.{LooksSerially, ReadsSerially, OrderedByTime}
use Rattle.record.specs.Accepted.{is_kept}
use Rattle.record.specs.Verdict.{are_renewed, retired_in, verdict}
use Rattle.record.specs.Lines.{IsLine, is_in_at}
use Rattle.record.specs.Whole.{is_whole}
use Rattle.record.specs.declared.record.Record.{Record}

-- every transaction that no log retired is whole, and is in the history if it was acknowledged; looks, and reads of committed
-- transactions, are those of the serial run, where no log was renewed; who began after an acknowledgement has the larger timestamp
pub record IsBorneOut (logs : List (List Record)) (lines : List Line) : Type 0 where
  pub whole : (t : Id) → IsTrue (is_kept (retired_in logs) t) → IsTrue (is_whole t logs)
  pub acknowledged : (t : Id) (at m : ℕ) → IsLine lines (Line.Ack t at m) → IsTrue (is_kept (retired_in logs) t) →
      IsTrue (is_in_at (history logs) t at)
  pub looks : IsFalse (are_renewed logs) → LooksSerially logs lines
  pub reads : IsFalse (are_renewed logs) → ReadsSerially logs lines
  pub order : OrderedByTime logs lines

-- a yes means this
abbrev pub YesIsSound : Type 0
YesIsSound = (logs : List (List Record)) (lines : List Line) → verdict logs lines ≡ Yes → IsBorneOut logs lines

-- the line's value is not that of the serial run; a read of an id that is not in the history has none
abbrev pub IsWrong : List Txn → Line → Type 0
IsWrong h (Read t k x) = (u : Txn) → find_txn h t ≡ Some u → before h u k ≡ x → ⊥
IsWrong h (Look k at x) = upto h at k ≡ x → ⊥
IsWrong h (Begin t m) = ⊥
IsWrong h (Ack t at m) = ⊥

-- an acknowledgement at a timestamp at which its id is not in the history, though it is not retired
pub record IsLost (retired : Option Id) (h : List Txn) (lines : List Line) (t : Id) : Type 0 where
  pub at : ℕ
  pub moment : ℕ
  pub line : IsLine lines (Ack t at moment)
  pub kept : IsTrue (is_kept retired t)
  pub missing : is_in_at h t at ≡ false

-- a begin line of a committed id, and an earlier acknowledgement at a timestamp that is not below its own
pub record IsLate (h : List Txn) (lines : List Line) (i j : ℕ) : Type 0 where
  pub begun : Id
  pub told : Id
  pub at : ℕ
  pub begun_at : ℕ
  pub told_at : ℕ
  pub txn : Txn
  pub begin : slice_get lines i ≡ Some (Begin begun begun_at)
  pub ack : slice_get lines j ≡ Some (Ack told at told_at)
  pub found : find_txn h begun ≡ Some txn
  pub before : nat_lt told_at begun_at ≡ true
  pub not_below : nat_le txn.at at ≡ true

-- what a verdict says
abbrev pub IsRight : List (List Record) → List Line → Verdict → Type 0
IsRight logs lines Yes = Unit {0}
IsRight logs lines (Torn t) = IsTrue (is_kept (retired_in logs) t) × (is_whole t logs ≡ false)
IsRight logs lines (Lost t) = IsLost (retired_in logs) (history logs) lines t
IsRight logs lines (WrongRead i) = IsFalse (are_renewed logs) × (l : Line) × (slice_get lines i ≡ Some l) × IsWrong (history logs) l
IsRight logs lines (WrongOrder i j) = IsLate (history logs) lines i j

-- each no is right
abbrev pub EachNoIsRight : Type 0
EachNoIsRight = (logs : List (List Record)) (lines : List Line) → IsRight logs lines (verdict logs lines)

-- each read that a line shows is of a committed id; over renewed logs none is asked for
abbrev pub ReadsCommitted : List (List Record) → List Line → Type 0
ReadsCommitted logs lines =
    IsFalse (are_renewed logs) → (t : Id) (k : Bytes) (x : Option Bytes) → IsLine lines (Read t k x) → (u : Txn) × (find_txn (history logs) t ≡ Some u)

-- where nothing is wrong, the verdict is yes
abbrev pub SoundIsYes : Type 0
SoundIsYes = (logs : List (List Record)) (lines : List Line) → IsBorneOut logs lines → ReadsCommitted logs lines → verdict logs lines ≡ Yes
