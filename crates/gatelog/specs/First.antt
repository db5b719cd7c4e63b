-- A log's file of version 1: a header, and the frames of the log. And what a copy of it is.
use Rattle.std.specs.Prelude.{◌≡◌, ◌<◌, ◌≤◌, ℕ, ◌+◌, ◌^◌, List, [], ◌∷◌, map, take, drop, length, Result, Ok, Err, if◌then◌else◌, bytes_eq}
use Rattle.std.specs.List.{AllByRecursion}
use Rattle.units.specs.declared.fault.Fault.{Fault}
use Rattle.units.specs.declared.fault.Fault.TheVariants.{NotALog}
use Rattle.disk.specs.File.{File, surface}
use Rattle.disk.specs.Image.{MayLeave}
use Rattle.spelling.specs.Limits.{IsRecord}
use Rattle.gatelog.specs.Crash.{Stands, Begins}
use Rattle.gatelog.specs.Frames.{end_of}
use Rattle.gatelog.specs.Areas.{without_header, placed_from}
use Rattle.gatelog.specs.Gates.{first_gate}
use Rattle.gatelog.specs.Laid.{WasLaid, HasNoneOr}
use Rattle.frames.specs.Placed.{Placed}
use Rattle.frames.specs.Entries.{entries_at}
use Rattle.gatelog.specs.Log.{log, entries_of}

-- the text SPNLOG01
abbrev pub first_header : List ℕ
first_header = 0x53 ∷ 0x50 ∷ 0x4e ∷ 0x4c ∷ 0x4f ∷ 0x47 ∷ 0x30 ∷ 0x31 ∷ []

-- the entries of a file of version 1, and the offset of its closed gate
unfoldable pub first_scan : List ℕ → Result (List Placed × ℕ) Fault
first_scan image = if bytes_eq (take 8 image) first_header then entries_at 8 0 (drop 8 image) else Err NotALog

-- the log of a file of version 1, or how it is damaged
abbrev pub first_log : List ℕ → Result (List Placed) Fault
first_log image = entries_of (first_scan image)

-- how much further behind a record stands in a copy
abbrev pub moved_by : ℕ
moved_by = 9216

-- the same entries in a copy
abbrev pub moved : List Placed → List Placed
moved entries = map (λ (e : Placed). record { offset = e.offset + moved_by; item = e.item }) entries

-- a copy of a log whose closed gate is here would have more than 2^40 bytes
abbrev pub IsTooLong : ℕ → Type 0
IsTooLong gate = 2 ^ 40 < gate + moved_by + 1

-- a file of version 1 has a log that is too long for a copy
abbrev pub HasTooLong : List ℕ → Type 0
HasTooLong image = (entries : List Placed) × (gate : ℕ) × (first_scan image ≡ Ok (entries, gate)) × IsTooLong gate

-- the bytes of a copy without its header, of a log with these records
pub record AreSpelled (entries : List Placed) (bytes : List ℕ) : Type 0 where
  pub are : bytes ≡ without_header (map (λ e. e.item) entries)
  pub fit : AllByRecursion IsRecord (map (λ e. e.item) entries)
  pub placed : (placed_from 8 (map (λ e. e.item) entries)).0 ≡ entries
  pub small : length bytes ≤ 2 ^ 40

module _ {D : Type 0} (file : D → File) (clock : D → ℕ) (since : D → ℕ → List ℕ → Type 0) where
  -- a file of version 1 was copied into the file of a disk, whose closed gate is there now
  pub record HasCopied (image : List ℕ) (old new : D) (gate : ℕ) (entries : List Placed) : Type 0 where
    pub from : first_log image ≡ Ok entries
    -- from now on every crash leaves the same records, and a read gives them
    pub durable : Stands (surface (file new)) (Ok (moved entries))
    pub read : log (surface (file new)).seen ≡ Ok (moved entries)
    pub begins : Begins (surface (file new)) (record { at = first_gate; slots = 0 })
    pub ends : gate ≡ end_of (map (λ e. e.item) entries)
    -- all but the header was synced first; a crash from then on left no log, or these records
    pub laid : WasLaid file clock since (without_header (map (λ e. e.item) entries)) (HasNoneOr (moved entries)) old new

-- what a crash now leaves, where a call behind the first sync failed: no log, or the same records
abbrev pub LeavesCopy : {D : Type 0} → (D → File) → List ℕ → D → Type 0
LeavesCopy file image new = (entries : List Placed) × (first_log image ≡ Ok entries)
    × ((left : List ℕ) → MayLeave (surface (file new)) left → HasNoneOr (moved entries) left)
