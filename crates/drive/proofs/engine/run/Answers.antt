use Rattle.std.proofs.Common.{rules, inl, inr, ◌≡◌, ◌*◌, Result, Err, sym, subst}
use Rattle.units.specs.declared.fault.Fault.{Fault}
use Rattle.workers.specs.declared.worker.Report.{Report}
use Rattle.workers.specs.Reports.{IsCounted}
use Rattle.drive.proofs.engine.run.Goals as goal
use Rattle.drive.proofs.engine.run.Goals.{in-Ok-to_serve, in-Err-to_serve}

pub returns : goal.returns
returns g c =
    let counted = λ (report : Result Report Fault). IsCounted (c.args.course.workers * c.args.course.transactions) report in
    let back : (report : Result Report Fault) → c.match-to_serve.report ≡ report → counted report → counted c.match-to_serve.report
    = λ report same is. subst counted (sym same) is in
    elim c.match-to_serve.branch [
      | in-Ok-to_serve w ↦ back w.run_all-report.result (search rules) w.run_all-report.ensures
      | in-Err-to_serve w ↦ back (Err w.in-Err-to_serve.fault) (search rules) (inr (inl w.in-Err-to_serve.ensures))
    ]
