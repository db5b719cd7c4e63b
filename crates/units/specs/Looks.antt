-- What a look answers, and what it leaves in the buffer that it was given.
use Rattle.std.specs.Prelude.{ℕ, ◌≡◌, ◌≤◌, ◌<◌, ◌⊎◌, IsTrue, IsFalse, Bool, List, Option, None, Some, Result, Ok, Err, length, drop, ◌++◌}
use Rattle.std.specs.Prelude.{if◌then◌else◌, nat_lt}
use Rattle.units.specs.Keys.{Bytes}
use Rattle.units.specs.declared.fault.Fault.{Fault}
use Rattle.units.specs.declared.fault.Fault.TheVariants.{NotYet, Room, Stranger, TooOld}
use Rattle.units.specs.declared.line.Seen.{Seen}
use Rattle.units.specs.declared.line.Seen.TheVariants.{Absent, Value}

-- what a look answers of a value, or of none, with so much room in the buffer
abbrev pub value_seen : Option Bytes → ℕ → Result Seen Fault
value_seen None room = Ok Absent
value_seen (Some value) room = if nat_lt room (length value) then Err Room else Ok (Value (length value))

-- the buffer behind that: the value at its front, where it has the room, and the rest as it was
abbrev pub buffer_filled : Option Bytes → List ℕ → List ℕ
buffer_filled None buffer = buffer
buffer_filled (Some value) buffer = if nat_lt (length buffer) (length value) then buffer else value ++ drop (length value) buffer

-- what is answered where a key is at home or not, by the horizon, the last safe timestamp and the value: a key that is elsewhere
-- comes first, then a timestamp below the horizon, then one that is not served yet, and then a buffer that is too short
abbrev pub look_answer_with : Bool → ℕ → ℕ → Option Bytes → ℕ → ℕ → Result Seen Fault
look_answer_with here horizon safe value at room =
    if here then (if nat_lt at horizon then Err TooOld else (if nat_lt safe at then Err NotYet else value_seen value room)) else Err Stranger

abbrev pub look_buffer_with : Bool → ℕ → ℕ → Option Bytes → ℕ → List ℕ → List ℕ
look_buffer_with here horizon safe value at buffer =
    if here then (if nat_lt at horizon then buffer else (if nat_lt safe at then buffer else buffer_filled value buffer)) else buffer

-- why a look is refused, by where its key belongs, the horizon and the last safe timestamp
abbrev pub IsRefusedLook : Bool → ℕ → ℕ → ℕ → Fault → Type 0
IsRefusedLook here horizon safe at fault =
    ((fault ≡ Stranger) × IsFalse here)
    ⊎ (((fault ≡ TooOld) × IsTrue here × (at < horizon)) ⊎ ((fault ≡ NotYet) × IsTrue here × (horizon ≤ at) × (safe < at)))
