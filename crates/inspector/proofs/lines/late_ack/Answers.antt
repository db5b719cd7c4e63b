use Rattle.std.specs.List.{list_any}
use Rattle.std.proofs.Common.{◌≡◌, ◌∙◌, ℕ, false, cond, List, [], Option, Some, None, ap, sym}
use Rattle.units.specs.Lists.{gather, head, numbered}
use Rattle.record.specs.History.{Txn}
use Rattle.record.specs.Verdict.{is_late_ack}
use Rattle.inspector.specs.Faults.{first_late}
use Rattle.inspector.proofs.AckLaws.{none_late}
use Rattle.inspector.proofs.lines.late_ack.Goals as goal

pub returns-else-is_late_by : goal.returns-else-is_late_by
returns-else-is_late_by c =
    let h = c.args.history.now in
    let lines = c.args.lines.now in
    let u : Txn = c.in-Some.begun.now in
    let m = c.in-Begin.moment in
    let none : list_any (is_late_ack m u.at) lines ≡ false =
    sym (ap (λ (v : Txn). list_any (is_late_ack m v.at) lines) c.begun.view_is)
    ∙ sym (c.requires.late m c.begun.inside.at)
    ∙ sym c.is_late_by.ensures
    ∙ c.if-is_late_by.false in
    sym (none_late m u.at 0 lines none)
    ∙ ap (λ (o : Option Txn). head (elim o as (λ x. List ℕ) [
      | None ↦ []
      | Some v ↦ gather (λ l. cond (is_late_ack m v.at l.1) (Some (l.0)) None)
          (numbered 0 lines)
    ])) c.in-Some.ensures
    ∙ ap (λ l. first_late h lines l) (sym c.in-Begin.is)
