-- Why what a desk is asked may be refused, whatever it knows.
use Rattle.std.specs.Prelude.{Bool, true, false}
use Rattle.units.specs.declared.fault.Fault.{Fault}
use Rattle.units.specs.declared.fault.Fault.TheVariants.{Memory as WantsMemory, Device, Stopped, TimeSpent, BookFull, Future}
use Rattle.protocol.specs.Refusals.{is_own}

-- a turnover: a growth was refused, there is no place, the device failed, or it had failed before
abbrev pub refuses_turnover : Fault → Bool
refuses_turnover WantsMemory = true
refuses_turnover TimeSpent = true
refuses_turnover Device = true
refuses_turnover Stopped = true
refuses_turnover _ = false

-- a horizon that is no later than what is served: for one of these, or as the book is full
abbrev pub refuses_horizon : Fault → Bool
refuses_horizon BookFull = true
refuses_horizon fault = refuses_turnover fault

-- an advance: for one of these, or as it is beyond the reading
abbrev pub refuses_advance : Fault → Bool
refuses_advance Future = true
refuses_advance fault = refuses_horizon fault

-- any input: for one of these, or as its step refuses it
abbrev pub refuses_input : Fault → Bool
refuses_input WantsMemory = true
refuses_input Device = true
refuses_input Stopped = true
refuses_input BookFull = true
refuses_input fault = is_own fault
