-- The reasons for which a step refuses.
use Rattle.std.specs.Prelude.{◌≡◌, Bool, true, false, Ok, Err}
use Rattle.units.specs.declared.fault.Fault.{Fault}
use Rattle.units.specs.declared.fault.Fault.TheVariants.{TimeSpent, RowsFull, Future, NotYet, Early, Stranger}
use Rattle.units.specs.declared.setup.Setup.{Setup}
use Rattle.truetime.specs.Interval.{Interval}
use Rattle.message.specs.declared.message.Input.{Input}
use Rattle.protocol.specs.Plan.{Before, Planned}
use Rattle.protocol.specs.Step.{plan_input}

-- time or room is spent, it is too early, it is not served yet, or somebody is a stranger
abbrev pub is_own : Fault → Bool
is_own TimeSpent = true
is_own RowsFull = true
is_own Future = true
is_own NotYet = true
is_own Early = true
is_own Stranger = true
is_own _ = false

-- a plan, or a refusal for one of these reasons
abbrev pub Owns : Planned → Type 0
Owns (Ok p) = Unit {0}
Owns (Err why) = is_own why ≡ true

-- no step refuses for another
abbrev pub OwnRefusals : Type 0
OwnRefusals = (setup : Setup) (b : Before) (now : Interval) (i : Input) → Owns (plan_input setup b now i)
