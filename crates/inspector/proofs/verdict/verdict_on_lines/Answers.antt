use Rattle.std.proofs.Common.{◌≡◌, ◌∙◌, Bool, IfOk, List, ap, ap₂, map, subst, sym}
use Rattle.units.specs.declared.line.Verdict.{Verdict}
use Rattle.record.specs.History.{Txn, history, serial}
use Rattle.record.specs.Verdict.{are_renewed}
use Rattle.record.specs.declared.record.Record.{Record}
use Rattle.inspector.specs.Known.{HaveSame}
use Rattle.inspector.specs.Faults.{line_fault}
use Rattle.inspector.proofs.KnownLaws.{same_fault, same_serial}
use Rattle.inspector.proofs.verdict.verdict_on_lines.Goals as goal

pub line_fault-requires-clause-serial : goal.line_fault-requires-clause-serial
line_fault-requires-clause-serial c =
    let logs : List (List Record) = map (λ log. log.items) c.args.logs.now in
    let same : HaveSame c.put_by_id.new.found.items (history logs) = subst
    (λ (h : List Txn). HaveSame c.put_by_id.new.found.items h) c.in_ok-by_id.ensures.history c.in_ok-put_by_id.ensures.same in
    c.deref-2.ensures.value
    ∙ c.in_ok-put_in_order.ensures.serial
    ∙ ap (λ (h : List Txn). serial h) c.in_ok-ordered.ensures.history
    ∙ sym (same_serial c.put_by_id.new.found.items (history logs) same)
    ∙ ap (λ (h : List Txn). serial h) (sym c.deref.ensures.value)

pub returns-clause-fault : goal.returns-clause-fault
returns-clause-fault c =
    let logs : List (List Record) = map (λ log. log.items) c.args.logs.now in
    let same : HaveSame c.put_by_id.new.found.items (history logs) = subst
    (λ (h : List Txn). HaveSame c.put_by_id.new.found.items h) c.in_ok-by_id.ensures.history c.in_ok-put_by_id.ensures.same in
    subst (λ (v : Verdict). IfOk c.line_fault.result (λ found. found ≡ v))
    (ap₂ (λ (b : Bool) (h : List Txn). line_fault c.args.retired.now b h c.args.lines.now) c.are_renewed.ensures c.deref.ensures.value
    ∙ same_fault c.args.retired.now (are_renewed logs) c.put_by_id.new.found.items (history logs) same c.args.lines.now)
    c.line_fault.ensures.fault
