-- The bytes of an area, and of a file whose slots are closed.
use Rattle.std.specs.Prelude.{ℕ, ◌*◌, List, [], ◌∷◌, ◌++◌, flat_map, replicate}
use Rattle.record.specs.declared.record.Record.{Record}
use Rattle.gatelog.specs.Frames.{behind_gate, header, next_gate}
use Rattle.frames.specs.Gate.{open_gate}
use Rattle.frames.specs.Placed.{Placed}
use Rattle.gatelog.specs.Slots.{slot_count}

-- the entries of an area that begins at an offset, and the offset of its closed gate
abbrev pub placed_from : ℕ → List Record → List Placed × ℕ
placed_from at [] = ([], at)
placed_from at (r ∷ rs) = ((record { offset = at; item = r }) ∷ (placed_from (next_gate at r) rs).0, (placed_from (next_gate at r) rs).1)

-- the frame of a record with its gate open
abbrev pub whole_frame : Record → List ℕ
whole_frame r = open_gate ∷ behind_gate r

-- the bytes of an area: its frames, and a closed gate
abbrev pub area_bytes : List Record → List ℕ
area_bytes items = flat_map whole_frame items ++ 0 ∷ []

-- a file whose slots are closed and whose first area has these records, behind its first eight bytes
abbrev pub behind_header : List Record → List ℕ
behind_header items = replicate (9 * slot_count) 0 ++ area_bytes items

-- with eight 00 in the place of the header, and with the header
abbrev pub without_header : List Record → List ℕ
without_header items = replicate 8 0 ++ behind_header items

abbrev pub fresh_with : List Record → List ℕ
fresh_with items = header ++ behind_header items
