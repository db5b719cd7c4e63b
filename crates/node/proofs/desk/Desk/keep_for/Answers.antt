use Rattle.std.proofs.Common.{rules, ◌≡◌, Err, IfErr, sym, subst, arith}
use Rattle.node.specs.DeskFaults.{refuses_horizon}
use Rattle.node.proofs.DeskFaults.{IsOf, forgot_or_refused}
use Rattle.node.proofs.desk.Desk.keep_for.Goals as goal

pub returns-in_err-taken-clause-faults : goal.returns-in_err-taken-clause-faults
returns-in_err-taken-clause-faults g c =
    let fault = c.in_err-taken.field-0.0 in
    let is : c.from_residual.result ≡ Err fault = (search rules) in
    let of : IsOf refuses_horizon fault =
    forgot_or_refused g.D.Disk.keeps_model g.D.Disk.obeys g.D.Disk.file g.D.Disk.clock g.D.Disk.since g.D.Disk.failures g.D.Disk.plan
    _ _ _ _ c.args.now.now (Err fault) _ (omega (arith, c.horizon_for-at.ensures, c.safe-served.ensures)) c.in_err-taken.ensures.stepped in
    subst (λ r. IfErr r (IsOf refuses_horizon)) (sym is) of
