-- What cuts a worker's turns short.
use Rattle.std.proofs.Common.{◌≡◌, Result, Err, IfErr, sym, subst}
use Rattle.units.specs.declared.fault.Fault.{Fault}
use Rattle.client.specs.Refusals.{IsStepFault}

-- a refusal is passed on
pub passed_on : {A : Type 0} (r : Result A Fault) (fault : Fault) → r ≡ Err fault → IsStepFault fault → IfErr r IsStepFault
passed_on {A = A} r fault is why = subst (λ (x : Result A Fault). IfErr x IsStepFault) (sym is) why
