-- The log of a file: the records of the area that its slots name, before the first gate that is not open, each with the offset of its gate.
use Rattle.std.specs.Prelude.{ℕ, Bool, false, true, List, [], ◌∷◌, ◌++◌, take, drop, Result, Ok, Err, ◌==◌, if◌then◌else◌, bytes_eq}
use Rattle.units.specs.declared.fault.Fault.{Fault}
use Rattle.units.specs.declared.fault.Fault.TheVariants.{Damaged, NotALog}
use Rattle.frames.specs.Placed.{Placed}
use Rattle.gatelog.specs.Frames.{header}
use Rattle.frames.specs.Entries.{entries_at}
use Rattle.gatelog.specs.Slots.{area_of}

-- the entries of an area, and the offset of its closed gate
abbrev pub in_area : List ℕ → Result ℕ Fault → Result (List Placed × ℕ) Fault
in_area image (Ok area) = entries_at area 0 (drop area image)
in_area image (Err fault) = Err fault

-- the entries of a file's present area, and the offset of its closed gate
unfoldable pub scan : List ℕ → Result (List Placed × ℕ) Fault
scan image = if bytes_eq (take 8 image) header then in_area image (area_of image) else Err NotALog

-- the entries alone
abbrev pub entries_of : Result (List Placed × ℕ) Fault → Result (List Placed) Fault
entries_of (Ok found) = Ok found.0
entries_of (Err fault) = Err fault

-- why a file has no log, whatever it is: it is none, or it is damaged somewhere
abbrev pub is_no_log : Fault → Bool
is_no_log NotALog = true
is_no_log (Damaged offset) = true
is_no_log _ = false

-- the log of a file, or how it is damaged
abbrev pub log : List ℕ → Result (List Placed) Fault
log image = entries_of (scan image)

-- the scan found a closed gate at this offset
abbrev pub ends_with : Result (List Placed × ℕ) Fault → ℕ → Bool
ends_with (Ok found) gate = found.1 == gate
ends_with (Err fault) gate = false

-- the file has a log, and its closed gate is at this offset
abbrev pub ends_at : List ℕ → ℕ → Bool
ends_at image gate = ends_with (scan image) gate

-- a log with one entry more
abbrev pub and_entry : Result (List Placed) Fault → Placed → Result (List Placed) Fault
and_entry (Ok entries) entry = Ok (entries ++ entry ∷ [])
and_entry (Err fault) entry = Err fault
