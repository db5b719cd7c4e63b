-- What is printed of a drive.
use Rattle.std.specs.Prelude.{ℕ, ◌+◌, Bool, true, false, List, ◌++◌, codes}
use Rattle.std.specs.Fmt.{decimal}
use Rattle.progress.specs.declared.turn.Ended.{Ended}
use Rattle.progress.specs.declared.turn.Ended.TheVariants.{Committed, Aborted, Unknown}
use Rattle.units.specs.declared.line.Verdict.{Verdict}
use Rattle.output.specs.Verdicts.{text_of}
use Rattle.workers.specs.declared.summary.Counts.{Counts}

-- how many transactions were tried
abbrev pub tried : Counts → ℕ
tried c = c.committed + c.aborted + c.unknown

-- a transaction that ended so counts this often among those that committed
abbrev pub one_if_committed : Ended → ℕ
one_if_committed Committed = 1
one_if_committed Aborted = 0
one_if_committed Unknown = 0

-- among those that were aborted
abbrev pub one_if_aborted : Ended → ℕ
one_if_aborted Committed = 0
one_if_aborted Aborted = 1
one_if_aborted Unknown = 0

-- and among those whose end is not known
abbrev pub one_if_unknown : Ended → ℕ
one_if_unknown Committed = 0
one_if_unknown Aborted = 0
one_if_unknown Unknown = 1

-- a look that was answered counts once
abbrev pub one_if : Bool → ℕ
one_if true = 1
one_if false = 0

-- a line of a word and a number
abbrev pub line : List ℕ → ℕ → List ℕ
line word n = word ++ (codes " " ++ (decimal n ++ codes "\n"))

-- four lines
abbrev pub counts_text : Counts → List ℕ
counts_text c =
    line (codes "committed") c.committed
    ++ (line (codes "aborted") c.aborted
    ++ (line (codes "unknown") c.unknown
    ++ line (codes "looks") c.looks))

-- and that of the verdict behind them
abbrev pub summary_text : Counts → Verdict → List ℕ
summary_text c v = counts_text c ++ (codes "verdict " ++ (text_of v ++ codes "\n"))
