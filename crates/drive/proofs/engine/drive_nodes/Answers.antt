use Rattle.std.proofs.Common.{inr, ℕ, ◌≡◌, ◌≤◌, ◌*◌, List, Option, ap, sym, subst, ◌∙◌}
use Rattle.std.specs.Prelude.{IfSome}
use Rattle.units.specs.declared.line.Line.{Line}
use Rattle.workers.specs.Reports.{IsTally}
use Rattle.workers.specs.Summaries.{tried}
use Rattle.workers.specs.declared.summary.Counts.{Counts}
use Rattle.node.proofs.Outcomes.{on_err, on_ok}
use Rattle.drive.proofs.Outcomes.{both_ok}
use Rattle.drive.proofs.engine.drive_nodes.Goals as goal

pub returns-in-Ok-clause-tried : goal.returns-in-Ok-clause-tried
returns-in-Ok-clause-tried g c = on_ok _ _ c.outcome.result (λ driven is. ap tried is ∙ c.in-Ok.ensures.tried) c.outcome.ensures.counts

pub returns-in-Ok-clause-looks : goal.returns-in-Ok-clause-looks
returns-in-Ok-clause-looks g c =
    let counts = c.in-Ok.report.counts in
    let few : counts.looks ≤ tried counts = subst (λ (n : ℕ). counts.looks ≤ n) (sym c.in-Ok.ensures.tried) c.in-Ok.ensures.looks in
    on_ok _ _ c.outcome.result (λ driven is. subst (λ (counts : Counts). counts.looks ≤ tried counts) (sym is) few) c.outcome.ensures.counts

-- the counts and the lines are those that the workers reported
pub returns-in-Ok-clause-told : goal.returns-in-Ok-clause-told
returns-in-Ok-clause-told g c =
    let tries : ℕ = c.args.course.workers * c.args.course.transactions in
    both_ok _ _ _ c.outcome.result
    (λ driven counts lines. subst (λ (ls : List Line). IsTally tries driven.summary.counts ls) (sym lines)
    (subst (λ (cs : Counts). IsTally tries cs c.in-Ok.report.lines.items) (sym counts) c.in-Ok.ensures))
    c.outcome.ensures.counts c.outcome.ensures.lines

-- so are those that are told without a verdict
pub returns-in-Ok-clause-counted : goal.returns-in-Ok-clause-counted
returns-in-Ok-clause-counted g c =
    let counts = c.in-Ok.report.counts in
    let tries : ℕ = c.args.course.workers * c.args.course.transactions in
    let all : tried counts ≡ tries = c.in-Ok.ensures.tried in
    let few : counts.looks ≤ tried counts = subst (λ (n : ℕ). counts.looks ≤ n) (sym all) c.in-Ok.ensures.looks in
    on_err _ _ c.outcome.result
    (λ none is. subst (λ (o : Option Counts). IfSome o (λ counts. (tried counts ≡ tries) × (counts.looks ≤ tried counts))) (sym is) (all, few))
    c.outcome.ensures.counted

pub returns-in-Ok-clause-undriven : goal.returns-in-Ok-clause-undriven
returns-in-Ok-clause-undriven g c = on_err _ _ c.outcome.result (λ none why. inr why) c.outcome.ensures.unjudged
