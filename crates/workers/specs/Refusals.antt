-- Why workers end before all their turns are done.
use Rattle.std.specs.Prelude.{◌≡◌, ◌⊎◌}
use Rattle.units.specs.declared.fault.Fault.{Fault}
use Rattle.units.specs.declared.fault.Fault.TheVariants.{TimeSpent}
use Rattle.client.specs.Refusals.{IsStepFault}

-- the numbers of a drawer are spent, memory is wanting, or a session refuses a step
abbrev pub IsCutShort : Fault → Type 0
IsCutShort fault = (fault ≡ TimeSpent) ⊎ IsStepFault fault
