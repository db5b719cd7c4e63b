use Rattle.std.proofs.Common.{◌≡◌, ◌↔◌, List, ℕ, Option, Some, Result, Ok, Err, sym, ap, ◌∙◌, arith}
use Rattle.std.specs.Prelude.{IfOk, MatchResult}
use Rattle.units.specs.declared.fault.Fault.{Fault}
use Rattle.units.specs.declared.fault.Fault.TheVariants.{Memory}
use Rattle.record.specs.declared.record.Record.{Record}
use Rattle.spelling.specs.Limits.{Spells}
use Rattle.spelling.specs.Reading.{read_record}
use Rattle.spelling.proofs.Again.{read_again}
use Rattle.spelling.proofs.Taken.{IsBytes, record_is}
use Rattle.spelling.proofs.reading.decode.Goals as goal

spelled : (bytes : List ℕ) (result : Result (Option Record) Fault) → IsBytes bytes → MatchResult result (λ found. read_record bytes ≡ found)
    (λ fault. fault ≡ Memory)
    → IfOk result (λ found. (r : Record) → Spells bytes r ↔ (found ≡ Some r))
spelled bytes (Ok found) fits is = λ r. ((λ spells. sym is ∙ ap read_record spells.1 ∙ read_again r spells.0), (λ e. record_is bytes r fits (is ∙ e)))
spelled bytes (Err fault) fits is = tt

pub returns-clause-spelled : goal.returns-clause-spelled
returns-clause-spelled c = spelled c.args.bytes.now c.whole_record.result (λ i. omega (arith, c.type_inv.bytes i)) c.whole_record.ensures
