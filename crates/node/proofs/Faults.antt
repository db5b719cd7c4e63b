-- Why a node is not opened again.
use Rattle.std.proofs.Common.{inl, inr, ⊎_elim, ℕ, List}
use Rattle.units.specs.declared.fault.Fault.{Fault}
use Rattle.units.specs.declared.setup.Setup.{Setup}
use Rattle.disk.specs.declared.plan.FailurePlan.{FailurePlan}
use Rattle.disk.specs.File.{File}
use Rattle.node.specs.InStep.{IsCount, IsNoDesk}
use Rattle.node.specs.Opening.{HasNoDesk}
use Rattle.shard.specs.Opened.{HasNotOpened}
use Rattle.node.specs.Faults.{RefusesRestart}

no_board : (n : ℕ) (fault : Fault) → IsNoDesk n fault → RefusesRestart n fault
no_board n fault (inl memory) = inr (inr (memory.0, inl memory.1))
no_board n fault (inr many) = inr (inl many)

module _ {D : Type 0} (keeps obeys : Type 0) (file : D → File) (clock : D → ℕ) (since : D → ℕ → List ℕ → Type 0) (failures : D → ℕ)
    (plan : D → FailurePlan) (disk : D) (setup : Setup) (n : ℕ) (fault : Fault) (back : D) where
  unopened : IsCount n → HasNotOpened keeps obeys file clock since failures plan disk setup fault back → RefusesRestart n fault
  unopened count is =
      ⊎_elim (λ memory. inr (inr (count, inl memory)))
      (λ else. ⊎_elim (λ broke. inr (inr (count, inr (inl broke.0)))) (λ told. inr (inr (count, inr (inr told.0)))) else) is.cause

  pub no_desk : HasNoDesk keeps obeys file clock since failures plan disk setup n fault back → RefusesRestart n fault
  no_desk (inl many) = inr (inl (many.0, many.1))
  no_desk (inr made) =
      ⊎_elim (λ memory. inr (inr (made.0, inl memory.0)))
      (λ else. ⊎_elim (λ is. unopened made.0 is) (λ is. no_board n fault is.why) else) made.1
