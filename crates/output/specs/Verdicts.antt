-- How a verdict is printed.
use Rattle.std.specs.Prelude.{ℕ, List, ◌++◌, codes}
use Rattle.std.specs.Fmt.{decimal}
use Rattle.units.specs.Texts.{txn_text}
use Rattle.units.specs.declared.line.Verdict.{Verdict}
use Rattle.units.specs.declared.line.Verdict.TheVariants.{Yes, Torn, Lost, WrongRead, WrongOrder}

-- yes, or the fault
abbrev pub text_of : Verdict → List ℕ
text_of Yes = codes "yes"
text_of (Torn txn) = codes "no torn " ++ txn_text txn
text_of (Lost txn) = codes "no lost " ++ txn_text txn
text_of (WrongRead line) = codes "no read " ++ decimal line
text_of (WrongOrder begin ack) = codes "no order " ++ (decimal begin ++ (codes " " ++ decimal ack))

-- the status of a command that comes to it
abbrev pub exit_status : Verdict → ℕ
exit_status Yes = 0
exit_status (Torn txn) = 1
exit_status (Lost txn) = 1
exit_status (WrongRead line) = 1
exit_status (WrongOrder begin ack) = 1
