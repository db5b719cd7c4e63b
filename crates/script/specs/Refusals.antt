-- Why a schedule is not read.
use Rattle.std.specs.Prelude.{◌≡◌, ◌⊎◌}
use Rattle.units.specs.declared.fault.Fault.{Fault}
use Rattle.units.specs.declared.fault.Fault.TheVariants.{BadRequest}
use Rattle.units.specs.declared.fault.Reason.TheVariants.{Splits}
use Rattle.texts.specs.Refusals.{IsNoText}

-- memory is wanting, a line is outside the grammar, or its splits do not ascend
abbrev pub IsNoSchedule : Fault → Type 0
IsNoSchedule fault = IsNoText fault ⊎ (fault ≡ BadRequest Splits)
