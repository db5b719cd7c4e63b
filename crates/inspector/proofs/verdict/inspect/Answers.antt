use Rattle.std.proofs.Common.{◌≡◌, IfOk, List, None, Option, ap₂, map, rules, subst}
use Rattle.units.specs.Ids.{Id}
use Rattle.units.specs.declared.line.Verdict.{Verdict}
use Rattle.record.specs.History.{history}
use Rattle.record.specs.Verdict.{are_renewed, first_fault, first_lost, first_torn, first_wrong_order, retired_in, verdict, wrong_read}
use Rattle.record.specs.declared.record.Record.{Record}
use Rattle.inspector.proofs.verdict.inspect.Goals as goal

pub returns-clause-verdict : goal.returns-clause-verdict
unfolding verdict
returns-clause-verdict c =
    let logs : List (List Record) = map (λ log. log.items) c.args.logs.now in
    let lines = c.args.lines.now in
    let none : None ≡ first_torn logs = search rules in
    let retired : c.retired_in-retired.result ≡ retired_in logs = c.retired_in-retired.ensures in
    subst (λ (v : Verdict). IfOk c.verdict_on_lines.result (λ found. found ≡ v))
    (ap₂ (λ (torn r : Option Id). first_fault torn (first_lost r (history logs) lines)
    (wrong_read (are_renewed logs) (history logs) lines) (first_wrong_order (history logs) lines)) none retired)
    c.verdict_on_lines.ensures.fault
