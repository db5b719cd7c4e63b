-- The faults of a report's lines.
use Rattle.std.specs.Prelude.{ℕ, Bool, List, Option, None}
use Rattle.units.specs.Lists.{head, numbered}
use Rattle.units.specs.declared.line.Line.{Line}
use Rattle.units.specs.declared.line.Verdict.{Verdict}
use Rattle.units.specs.Ids.{Id}
use Rattle.record.specs.History.{Txn}
use Rattle.record.specs.Verdict.{first_fault, first_lost, first_wrong_order, late_acks, wrong_read}

-- the place of the first late acknowledgement for a begin line
abbrev pub first_late : List Txn → List Line → Line → Option ℕ
first_late h lines l = head (late_acks h (numbered 0 lines) l)

-- the verdict where no transaction is torn, over renewed logs or others, which retired all ids below this one
abbrev pub line_fault : Option Id → Bool → List Txn → List Line → Verdict
line_fault retired renewed us lines = first_fault None (first_lost retired us lines) (wrong_read renewed us lines) (first_wrong_order us lines)
