use Rattle.std.proofs.Common.{rules, ◌≡◌, Err, IfErr, sym, subst}
use Rattle.node.specs.DeskFaults.{refuses_advance}
use Rattle.node.proofs.DeskFaults.{IsOf, advanced_or_refused}
use Rattle.node.proofs.desk.Desk.advance.Goals as goal

pub returns-in_err-told-clause-faults : goal.returns-in_err-told-clause-faults
returns-in_err-told-clause-faults g c =
    let fault = c.in_err-told.field-0.0 in
    let is : c.from_residual.result ≡ Err fault = (search rules) in
    let of : IsOf refuses_advance fault =
    advanced_or_refused g.D.Disk.keeps_model g.D.Disk.obeys g.D.Disk.file g.D.Disk.clock g.D.Disk.since g.D.Disk.failures g.D.Disk.plan
    _ _ _ _ c.args.now.now (Err fault) c.args.to c.in_err-told.ensures.stepped in
    subst (λ r. IfErr r (IsOf refuses_advance)) (sym is) of
