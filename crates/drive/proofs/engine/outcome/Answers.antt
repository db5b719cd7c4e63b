use Rattle.std.proofs.Common.{rules, ◌≡◌, subst}
use Rattle.disk.specs.File.{surface}
use Rattle.inspection.specs.Judged.{IsJudged}
use Rattle.drive.proofs.engine.outcome.Goals as goal

pub returns-in-Ok-clause-verdict : goal.returns-in-Ok-clause-verdict
returns-in-Ok-clause-verdict g c =
    let same : c.deref.result.now ≡ c.args.report.lines.items = search rules in
    let seen = λ (disk : g.row.D.Denot). (surface (g.D.Disk.file disk)).seen in
    λ keeps. subst (λ lines. IsJudged seen c.in-Ok.disks.items lines c.in-Ok.verdict) same (c.in-Ok.ensures.verdict keeps)
