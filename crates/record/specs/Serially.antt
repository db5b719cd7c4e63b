-- What lines of a report owe to the serial run of the logs' transactions.
use Rattle.std.specs.Prelude.{ℕ, ◌≡◌, IsTrue, nat_lt, List, Option, Some}
use Rattle.units.specs.Ids.{Id}
use Rattle.units.specs.Keys.{Bytes}
use Rattle.units.specs.declared.line.Line.{Line}
use Rattle.record.specs.History.{Txn, history, before, upto, find_txn}
use Rattle.record.specs.Lines.{IsLine}
use Rattle.record.specs.declared.record.Record.{Record}

-- a look equals the serial run up to its time
abbrev pub LooksSerially : List (List Record) → List Line → Type 0
LooksSerially logs lines =
    (k : Bytes) (at : ℕ) (x : Option Bytes) → IsLine lines (Line.Look k at x) → upto (history logs) at k ≡ x

-- a read of a committed transaction equals the serial run before it
abbrev pub ReadsSerially : List (List Record) → List Line → Type 0
ReadsSerially logs lines =
    (t : Id) (k : Bytes) (x : Option Bytes) (u : Txn) → IsLine lines (Line.Read t k x) →
    find_txn (history logs) t ≡ Some u → before (history logs) u k ≡ x

-- a transaction begun after another's acknowledgement has the larger timestamp
abbrev pub OrderedByTime : List (List Record) → List Line → Type 0
OrderedByTime logs lines =
    (t u : Id) (at m n : ℕ) (x : Txn) → IsLine lines (Line.Ack t at m) → IsLine lines (Line.Begin u n) → IsTrue (nat_lt m n) →
    find_txn (history logs) u ≡ Some x → IsTrue (nat_lt at x.at)
