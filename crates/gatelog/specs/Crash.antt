-- What a crash may leave of a log.
use Rattle.std.specs.Prelude.{◌≡◌, ◌⊎◌, ◌+◌, List, ℕ, Result, Ok}
use Rattle.units.specs.declared.fault.Fault.{Fault}
use Rattle.disk.specs.Image.{Surface, MayLeave}
use Rattle.record.specs.declared.record.Record.{Record}
use Rattle.gatelog.specs.Areas.{placed_from}
use Rattle.frames.specs.Placed.{Placed}
use Rattle.gatelog.specs.Log.{log, and_entry}
use Rattle.gatelog.specs.Slots.{Beginning, begins_in}

-- every image that a crash now may leave has this log
abbrev pub Stands : Surface → Result (List Placed) Fault → Type 0
Stands file entries = (image : List ℕ) → MayLeave file image → log image ≡ entries

-- the image has the old log, or the old log with this entry
abbrev pub IsOldOrWith : Result (List Placed) Fault → Placed → List ℕ → Type 0
IsOldOrWith entries entry image = (log image ≡ entries) ⊎ (log image ≡ and_entry entries entry)

-- in every image that a crash now may leave the log begins there
abbrev pub Begins : Surface → Beginning → Type 0
Begins file beginning = (image : List ℕ) → MayLeave file image → begins_in image ≡ beginning

-- the image has the old log where it began, or that of a new area behind the old one's gate, which the next slot names
abbrev pub IsOldOrNew : List ℕ → ℕ → ℕ → List Record → List ℕ → Type 0
IsOldOrNew old gate slot items image =
    ((log image ≡ log old) × (begins_in image ≡ begins_in old))
    ⊎ ((log image ≡ Ok (placed_from (gate + 1) items).0) × (begins_in image ≡ record { at = gate + 1; slots = slot + 1 }))
