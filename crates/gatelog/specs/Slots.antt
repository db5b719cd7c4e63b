-- The slots of a log's file, and the area that they name. An area is frames up to a closed gate; the first stands behind the slots.
use Rattle.std.specs.Prelude.{ℕ, zero, suc, ◌+◌, ◌*◌, ◌||◌, Bool, true, false, List, length, take, drop, Result, Ok, Err, nat_le, ◌==◌, if◌then◌else◌, get_or}
use Rattle.std.specs.Int.{w64, from_be_bytes, to_be_bytes}
use Rattle.units.specs.declared.fault.Fault.{Fault}
use Rattle.units.specs.declared.fault.Fault.TheVariants.{Damaged}
use Rattle.frames.specs.Gate.{open_gate}
use Rattle.gatelog.specs.Gates.{first_gate}
use Rattle.gatelog.specs.declared.frame.TheConstants.{SLOTS}

-- how many slots there are
abbrev pub slot_count : ℕ
slot_count = SLOTS

-- where a slot is: a gate byte and eight bytes of an offset
abbrev pub slot_at : ℕ → ℕ
slot_at i = 8 + 9 * i

-- the offset in a slot
abbrev pub offset_in : List ℕ → ℕ
offset_in bytes = from_be_bytes w64 (take 8 (drop 1 bytes))

-- the eight bytes of an offset
abbrev pub offset_bytes : ℕ → List ℕ
offset_bytes at = to_be_bytes w64 at

-- What a slot says of the area, and of whether a closed one came, and then what those behind it say. A slot that the file does
-- not hold whole, an open one behind a closed one, and an open one whose offset does not ascend or is not in the file, are damage.
abbrev pub with_slot : ℕ → ℕ → Bool → ℕ → List ℕ → (ℕ → Bool → Result ℕ Fault) → Result ℕ Fault
with_slot at area shut size bytes rest =
    if nat_le (at + 9) size then
    (if get_or bytes 0 0 == open_gate then
    (if shut || nat_le (offset_in bytes) area || nat_le size (offset_in bytes) then Err (Damaged at) else rest (offset_in bytes) false)
    else rest area true)
    else Err (Damaged at)

-- the area that so many slots from an offset on name, where this one was named before, and a closed slot may have come
unfoldable pub named : ℕ → ℕ → ℕ → Bool → ℕ → List ℕ → Result ℕ Fault
named zero at area shut size bytes = Ok area
named (suc left) at area shut size bytes = with_slot at area shut size bytes (λ last closed. named left (at + 9) last closed size (drop 9 bytes))

-- where the present area begins, or which slot is damaged
abbrev pub area_of : List ℕ → Result ℕ Fault
area_of image = named slot_count 8 first_gate false (length image) (drop 8 image)

abbrev pub begins_at : Result ℕ Fault → ℕ
begins_at (Ok area) = area
begins_at (Err fault) = first_gate

-- where a log begins: the offset of its area, and how many slots are open
pub record Beginning : Type 0 where
  pub at : ℕ
  pub slots : ℕ

-- of so many slots that these bytes begin with, how many are open before the first that is not
unfoldable pub open_slots : ℕ → List ℕ → ℕ
open_slots zero bytes = 0
open_slots (suc left) bytes = if get_or bytes 0 0 == open_gate then suc (open_slots left (drop 9 bytes)) else 0

-- where the log of a file begins
abbrev pub begins_in : List ℕ → Beginning
begins_in image = record { at = begins_at (area_of image); slots = open_slots slot_count (drop 8 image) }
