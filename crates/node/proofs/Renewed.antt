-- How a renewal goes on behind the horizon.
use Rattle.std.proofs.Common.{rules, ◌≡◌, ℕ, true, false, List, Result, Ok, Err, refl, sym, subst}
use Rattle.units.specs.declared.fault.Fault.{Fault}
use Rattle.disk.specs.declared.plan.FailurePlan.{FailurePlan}
use Rattle.disk.specs.File.{File}
use Rattle.node.specs.InStep.{DeskView}
use Rattle.node.specs.Renewed.{GoesOn, HasTurnedIf, HasTurnedOver, has_grown}

module _ {D : Type 0} (keeps obeys : Type 0) (file : D → File) (clock : D → ℕ) (since : D → ℕ → List ℕ → Type 0) (failures : D → ℕ)
    (plan : D → FailurePlan) where
  -- the horizon was refused
  pub goes_no_further : (desk : DeskView D) (least : ℕ) (fault : Fault) (kept result : Result (Unit {0}) Fault) → kept ≡ Err fault → result ≡ Err fault
      → GoesOn keeps obeys file clock since failures plan kept desk desk least result
  goes_no_further desk least fault kept result was is =
      subst (λ (k : Result (Unit {0}) Fault). GoesOn keeps obeys file clock since failures plan k desk desk least result) (sym was) (refl, is)

  -- the log has not grown
  pub goes_as_it_is : (desk : DeskView D) (least : ℕ) (kept : Result (Unit {0}) Fault) (done : Unit {0}) → kept ≡ Ok done
      → has_grown desk.measure desk.core.gate least ≡ false → GoesOn keeps obeys file clock since failures plan kept desk desk least (Ok done)
  goes_as_it_is desk least kept done was short =
      subst (λ (k : Result (Unit {0}) Fault). GoesOn keeps obeys file clock since failures plan k desk desk least (Ok done)) (sym was)
      (subst (λ b. HasTurnedIf keeps obeys file clock since failures plan b desk desk (Ok done)) (sym short) (refl, (search rules)))

  -- it has grown
  pub goes_over : (old new : DeskView D) (least : ℕ) (kept result : Result (Unit {0}) Fault) (done : Unit {0}) → kept ≡ Ok done
      → has_grown old.measure old.core.gate least ≡ true → HasTurnedOver keeps obeys file clock since failures plan old new result
      → GoesOn keeps obeys file clock since failures plan kept old new least result
  goes_over old new least kept result done was long turned =
      subst (λ (k : Result (Unit {0}) Fault). GoesOn keeps obeys file clock since failures plan k old new least result) (sym was)
      (subst (λ b. HasTurnedIf keeps obeys file clock since failures plan b old new result) (sym long) turned)
