-- Which doings take an input, and why there is none in the code.
use Rattle.std.specs.Prelude.{◌≡◌, ◌⊎◌, Bool, true, false, Option, None}
use Rattle.units.specs.declared.fault.Fault.{Fault}
use Rattle.units.specs.declared.fault.Fault.TheVariants.{Memory, Stopped}
use Rattle.truetime.specs.Interval.{Interval}
use Rattle.message.specs.declared.message.Input.{Input}
use Rattle.world.specs.declared.event.Doing.{Doing}

-- it is no opening
abbrev pub goes_on : Doing → Bool
goes_on Doing.Open = false
goes_on _ = true

-- it is a message or a chore: a core takes it as an input
abbrev pub has_input : Doing → Bool
has_input Doing.Turn = false
has_input Doing.Open = false
has_input _ = true

-- memory was refused, or its message was never put out
abbrev pub IsNoInput : Option (Interval × Input) → Fault → Type 0
IsNoInput o fault = (fault ≡ Memory) ⊎ ((fault ≡ Stopped) × (o ≡ None))
