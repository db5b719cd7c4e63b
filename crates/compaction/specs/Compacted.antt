-- The records of a log in a file of their own.
use Rattle.std.specs.Prelude.{◌≡◌, ◌⊎◌, ◌<◌, ◌+◌, ◌^◌, ℕ, List, [], map, IsTrue, Result, Ok, Err}
use Rattle.units.specs.declared.fault.Fault.{Fault}
use Rattle.units.specs.declared.fault.Fault.TheVariants.{Device, Memory, NotALog, TimeSpent}
use Rattle.disk.specs.File.{File, surface}
use Rattle.disk.specs.Image.{MayLeave}
use Rattle.record.specs.declared.record.Record.{Record}
use Rattle.gatelog.specs.Areas.{without_header}
use Rattle.gatelog.specs.Frames.{end_from}
use Rattle.gatelog.specs.Gates.{first_gate}
use Rattle.gatelog.specs.Laid.{WasLaid}
use Rattle.gatelog.specs.Log.{log, is_no_log}
use Rattle.frames.specs.Placed.{Placed}

-- the records of entries
abbrev pub items_of : Result (List Placed) Fault → Result (List Record) Fault
items_of (Ok entries) = Ok (map (λ e. e.item) entries)
items_of (Err fault) = Err fault

-- the records of a file's log, or how it is damaged
abbrev pub records_in : List ℕ → Result (List Record) Fault
records_in image = items_of (log image)

-- the image has no log, the empty log, or one with these records
abbrev pub HasNoneOrThese : Result (List Record) Fault → List ℕ → Type 0
HasNoneOrThese records image = (log image ≡ Err NotALog) ⊎ ((log image ≡ Ok []) ⊎ (records_in image ≡ records))

-- in every image that a crash now may leave the log has these records
abbrev pub Holds : Result (List Record) Fault → File → Type 0
Holds records file = (image : List ℕ) → MayLeave (surface file) image → records_in image ≡ records

-- behind an empty first area these records would reach beyond 2^40 bytes
abbrev pub IsTooLong : List Record → Type 0
IsTooLong items = 2 ^ 40 < end_from (first_gate + 1) items + 1

-- and so would those of this log
abbrev pub HasTooLong : List ℕ → Type 0
HasTooLong image = (items : List Record) × (records_in image ≡ Ok items) × IsTooLong items

module _ {D : Type 0} (file : D → File) (clock : D → ℕ) (since : D → ℕ → List ℕ → Type 0) where
  -- All but the header of an empty log was synced first; a crash from then on left no log, the empty log, or these records.
  abbrev pub WasFilled : Result (List Record) Fault → D → D → Type 0
  WasFilled records old new = WasLaid file clock since (without_header []) (HasNoneOrThese records) old new

-- why no file gets the records of another one: memory is wanting, the system refuses a file, the new one would grow beyond its limit, or the
-- old one holds no log
abbrev pub IsNotCompacted : Fault → Type 0
IsNotCompacted fault = (fault ≡ Memory) ⊎ ((fault ≡ Device) ⊎ ((fault ≡ TimeSpent) ⊎ IsTrue (is_no_log fault)))

-- A file that was opened under one name, a file that was made under another, and what is on its disk now: on disks that keep the model the
-- records of the first were filled in there, and each crash from now on leaves them.
pub record WasCompacted {D : Type 0} (keeps : Type 0) (file : D → File) (clock : D → ℕ) (since : D → ℕ → List ℕ → Type 0)
    (named : List ℕ → D → Type 0) (old new : List ℕ) : Type 0 where
  pub from : D
  pub opened : named old from
  pub to : D
  pub made : named new to
  pub disk : D
  pub filled : keeps → WasFilled file clock since (records_in (surface (file from)).seen) to disk
  pub holds : keeps → Holds (records_in (surface (file from)).seen) (file disk)
