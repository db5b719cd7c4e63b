-- What is known of a log while it is taken record by record.
use Rattle.std.specs.Prelude.{◌≡◌, true, List, [], ◌++◌, length, Option, Some, None}
use Rattle.units.specs.declared.fault.Fault.{Fault}
use Rattle.units.specs.declared.fault.Fault.TheVariants.{Memory}
use Rattle.units.specs.declared.setup.Setup.{Setup}
use Rattle.record.specs.Accepted.{followed, taken, taken_from}
use Rattle.record.specs.Facts.{Facts, facts_of}
use Rattle.facts.specs.Stages.{stage_of}
use Rattle.facts.specs.declared.stage.Stage.{Stage}
use Rattle.frames.specs.Placed.{Placed}
use Rattle.memory.specs.Kept.{Kept}
use Rattle.recovery.specs.Recovered.{IsRecovered, fault_in, items}

-- these entries were taken, those are left, and this is known
pub record Stands (setup : Setup) (entries done left : List Placed) (stage : Stage) (facts : Facts) : Type 0 where
  pub whole : entries ≡ done ++ left
  pub before : followed setup.shard (items done) ≡ true
  pub known : facts ≡ facts_of (items done)
  pub staged : stage ≡ stage_of (items done)
  pub verdict : taken setup (items entries) ≡ taken_from setup (items done) (length done) (items left)

-- all these entries were taken, and this is known
abbrev pub AllStand : Setup → List Placed → Stage → Facts → Type 0
AllStand setup ts stage facts = Stands setup ts ts [] stage facts

-- the facts that are known: none before the first record
abbrev pub known_of : Option Kept → Facts
known_of None = facts_of []
known_of (Some k) = k.facts

-- where in the log one is
abbrev pub stage_known : Option Kept → Stage
stage_known None = stage_of []
stage_known (Some k) = k.stage

-- a state that was recovered, of this shard
abbrev pub IsStateOf : Setup → Option Kept → Type 0
IsStateOf setup None = Unit {0}
IsStateOf setup (Some k) = (k.setup ≡ setup) × IsRecovered k

-- there is a state as soon as there is a record
abbrev pub IsBegun : List Placed → Option Kept → Type 0
IsBegun ts None = ts ≡ []
IsBegun ts (Some k) = Unit {0}

-- all was taken so far, with the state that it leaves; or why a record was refused, if it was not for memory
pub record Goes (setup : Setup) (ts : List Placed) (state : Option Kept) : Type 0 where
  pub begun : IsBegun ts state
  pub state_of : IsStateOf setup state
  pub stands : AllStand setup ts (stage_known state) (known_of state)

abbrev pub Progresses : Setup → List Placed → Option Kept → Option Fault → Type 0
Progresses setup ts state None = Goes setup ts state
Progresses setup ts state (Some fault) = (fault ≡ Memory → ⊥) → fault_in (taken setup (items ts)) ts ≡ Some fault
