-- The entries of an area: frames, each behind an open gate, up to a gate that is closed.
use Rattle.std.specs.Prelude.{ℕ, zero, suc, ◌+◌, ◌^◌, ◌&&◌, List, [], ◌∷◌, ◌++◌, Option, Some, None, Result, Ok, Err, nat_le, ◌==◌, if◌then◌else◌}
use Rattle.std.specs.Int.{w32}
use Rattle.units.specs.declared.fault.Fault.{Fault}
use Rattle.units.specs.declared.fault.Fault.TheVariants.{Damaged}
use Rattle.spelling.specs.record.Record.{Record}
use Rattle.spelling.specs.Reading.{◌>>=◌, number_at, text_at, read_record}
use Rattle.frames.specs.Placed.{Placed}
use Rattle.frames.specs.Gate.{open_gate}

-- The record behind an open gate, and how many bytes it takes there. There is none where the length is 0, above 2^20
-- or past the end, or where the body is no record.
unfoldable pub framed : List ℕ → Option (Record × ℕ)
framed bytes = do
  count ← number_at w32 bytes
  body ← if nat_le 1 count.0 && nat_le count.0 (2 ^ 20) then text_at count.0 count.1 else None
  item ← read_record body.0
  Some (item, 4 + count.0)

-- how many bytes a frame takes behind its gate, 0 where there is none
abbrev pub frame_length : Option (Record × ℕ) → ℕ
frame_length (Some frame) = frame.1
frame_length None = 0

-- an entry, and then what follows it
abbrev pub with_entry : Placed → Result (List Placed × ℕ) Fault → Result (List Placed × ℕ) Fault
with_entry entry (Ok found) = Ok (entry ∷ found.0, found.1)
with_entry entry (Err fault) = Err fault

-- entries, and then what follows them
abbrev pub with_entries : List Placed → Result (List Placed × ℕ) Fault → Result (List Placed × ℕ) Fault
with_entries front (Ok found) = Ok (front ++ found.0, found.1)
with_entries front (Err fault) = Err fault

-- the frame at an open gate, and then what follows it
abbrev pub with_frame : ℕ → Option (Record × ℕ) → Result (List Placed × ℕ) Fault → Result (List Placed × ℕ) Fault
with_frame gate (Some frame) rest = with_entry (record { offset = gate; item = frame.0 }) rest
with_frame gate None rest = Err (Damaged gate)

-- The entries from an offset on, where so many bytes are passed over first, and the offset of the closed gate.
unfoldable pub entries_at : ℕ → ℕ → List ℕ → Result (List Placed × ℕ) Fault
entries_at at skip [] = Err (Damaged at)
entries_at at (suc skip) (byte ∷ bytes) = entries_at (at + 1) skip bytes
entries_at at zero (gate ∷ bytes) =
    if gate == open_gate then with_frame at (framed bytes) (entries_at (at + 1) (frame_length (framed bytes)) bytes) else Ok ([], at)
