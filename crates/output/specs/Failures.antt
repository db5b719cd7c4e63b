-- Why a command fails.
use Rattle.std.specs.Prelude.{◌≡◌, ◌⊎◌, Err}
use Rattle.units.specs.declared.fault.Fault.{Fault}
use Rattle.units.specs.declared.fault.Fault.TheVariants.{Memory}
use Rattle.output.specs.Replies.{Expected, Is}
use Rattle.output.specs.declared.failure.Failure.{Failure}
use Rattle.output.specs.declared.failure.Failure.TheVariants.{Refused, Unwritten}

-- the command is refused for what its words ask
pub record IsRefusedWith (failure : Failure) (expected : Expected) : Type 0 where
  pub fault : Fault
  pub told : failure ≡ Refused fault
  pub due : Is expected (Err fault)

-- a write failed, memory is wanting, or the command is refused
abbrev pub FailsFor : Type 0 → Failure → Expected → Type 0
FailsFor failed failure expected = ((failure ≡ Unwritten) × failed) ⊎ (failure ≡ Refused Memory) ⊎ IsRefusedWith failure expected
