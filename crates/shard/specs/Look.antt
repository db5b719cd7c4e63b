-- What a look at a core answers.
use Rattle.std.specs.Prelude.{◌≡◌, ◌≤◌, ◌<◌, ℕ, Bool, IsTrue, IsFalse, nat_eq, List, ◌++◌, drop, length, Option, Some, None, Result, Ok, Err}
use Rattle.units.specs.Keys.{Bytes, shard_of}
use Rattle.units.specs.Versions.{at_time}
use Rattle.units.specs.declared.fault.Fault.{Fault}
use Rattle.units.specs.declared.fault.Fault.TheVariants.{Stranger, TooOld, NotYet, Room}
use Rattle.units.specs.declared.line.Seen.{Seen}
use Rattle.units.specs.declared.setup.Setup.{Setup}
use Rattle.units.specs.declared.writes.Install.{Install}
use Rattle.units.specs.declared.line.Seen.TheVariants.{Absent, Value}
use Rattle.protocol.specs.Rows.{safe}
use Rattle.shard.specs.On.{CoreView}

-- the key is of a shard that was told this
abbrev pub owns : Setup → Bytes → Bool
owns setup key = nat_eq (shard_of setup.splits key) setup.shard

-- the key is of this shard
abbrev pub is_here : {D : Type 0} → CoreView D → Bytes → Bool
is_here core key = owns core.setup key

-- the greatest timestamp at which it may be looked
abbrev pub safe_at : {D : Type 0} → CoreView D → ℕ
safe_at core = safe core.memory

-- the bytes that a value puts in front of a buffer, and what is seen
abbrev pub IsSeen : Option Bytes → List ℕ → List ℕ → Seen → Type 0
IsSeen None old new seen = (seen ≡ Absent) × (new ≡ old)
IsSeen (Some value) old new seen = (seen ≡ Value (length value)) × (new ≡ value ++ drop (length value) old)

-- the value has no room in a buffer
abbrev pub IsOver : Option Bytes → ℕ → Type 0
IsOver None room = ⊥
IsOver (Some value) room = room < length value

-- what looks go by: what the shard was told, the horizon, the greatest timestamp that is served, and the versions
pub record Looks : Type 0 where
  pub setup : Setup
  pub horizon : ℕ
  pub served : ℕ
  pub installs : List Install

-- those of a core
abbrev pub looks_of : {D : Type 0} → CoreView D → Looks
looks_of core = record { setup = core.setup; horizon = core.facts.horizon; served = safe_at core; installs = core.facts.installs }

-- A look at a timestamp: the value that the versions have there, at the front of the buffer. It is refused where the key is
-- of another shard, else where the timestamp is below the horizon, else where it is not served yet, else where the buffer has
-- too little room; the buffer is then as it was.
abbrev pub IsLookBy : Looks → Bytes → ℕ → List ℕ → List ℕ → Result Seen Fault → Type 0
IsLookBy looks key at old new (Ok seen) =
    IsTrue (owns looks.setup key) × (looks.horizon ≤ at) × (at ≤ looks.served) × IsSeen (at_time looks.installs key at) old new seen
IsLookBy looks key at old new (Err Stranger) = IsFalse (owns looks.setup key) × (new ≡ old)
IsLookBy looks key at old new (Err TooOld) = IsTrue (owns looks.setup key) × (at < looks.horizon) × (new ≡ old)
IsLookBy looks key at old new (Err NotYet) = IsTrue (owns looks.setup key) × (looks.horizon ≤ at) × (looks.served < at) × (new ≡ old)
IsLookBy looks key at old new (Err Room) =
    IsTrue (owns looks.setup key) × (looks.horizon ≤ at) × (at ≤ looks.served)
    × IsOver (at_time looks.installs key at) (length old) × (new ≡ old)
IsLookBy looks key at old new (Err _) = ⊥

-- a look at a core
abbrev pub IsLook : {D : Type 0} → CoreView D → Bytes → ℕ → List ℕ → List ℕ → Result Seen Fault → Type 0
IsLook core = IsLookBy (looks_of core)
