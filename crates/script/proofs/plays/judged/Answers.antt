use Rattle.std.proofs.Common.{◌∙◌, map}
use Rattle.record.specs.Verdict.{verdict}
use Rattle.script.proofs.plays.judged.Goals as goal

pub returns-clause-yes : goal.returns-clause-yes
returns-clause-yes c =
    c.in_ok-verdict.ensures.verdict
    ∙ (λ i. verdict (map (λ log. log.items) (c.deref.ensures.value i)) (c.deref-2.ensures.value i))
    ∙ (c.reports.ensures c.args.config.now c.args.events.now c.in_ok-report.report c.in_ok-report.ensures.report).judged
