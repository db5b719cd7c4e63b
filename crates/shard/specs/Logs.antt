-- The records that a shard's disk holds.
use Rattle.std.specs.Prelude.{◌≡◌, ◌⊎◌, ℕ, List, [], ◌∷◌, ◌++◌, map, fold, Option, Some, None, Result, Ok, Err}
use Rattle.units.specs.declared.fault.Fault.{Fault}
use Rattle.disk.specs.Image.{Surface, MayLeave}
use Rattle.record.specs.declared.record.Record.{Record}
use Rattle.record.specs.Facts.{Facts, learn, no_facts}
use Rattle.frames.specs.Placed.{Placed}
use Rattle.gatelog.specs.Log.{log}
use Rattle.gatelog.specs.Slots.{begins_in}

-- the records of a log, without their places
abbrev pub items_of : Result (List Placed) Fault → Result (List Record) Fault
items_of (Ok entries) = Ok (map (λ e. e.item) entries)
items_of (Err fault) = Err fault

-- the records in an image of the disk
abbrev pub records_in : List ℕ → Result (List Record) Fault
records_in image = items_of (log image)

-- some records and, where there is one, one more
abbrev pub and_logged : Result (List Record) Fault → Option Record → Result (List Record) Fault
and_logged (Ok records) (Some r) = Ok (records ++ r ∷ [])
and_logged records _ = records

-- every image that a crash now may leave holds these records
abbrev pub KeepsRecords : Surface → Result (List Record) Fault → Type 0
KeepsRecords disk records = (image : List ℕ) → MayLeave disk image → records_in image ≡ records

-- the image holds the old records, or these with one more
abbrev pub HoldsOldOrWith : Result (List Record) Fault → Option Record → List ℕ → Type 0
HoldsOldOrWith old logged image = (records_in image ≡ old) ⊎ (records_in image ≡ and_logged old logged)

-- a crash might have left the image before, or its log begins where that one began
abbrev pub BeginsAsBefore : Surface → List ℕ → Type 0
BeginsAsBefore disk image = MayLeave disk image ⊎ (begins_in image ≡ begins_in disk.seen)

-- the facts of some records, each learnt behind those before it
abbrev pub learned : List Record → Facts
learned records = fold learn no_facts records

-- the facts that a disk holds
abbrev pub facts_logged : Result (List Record) Fault → Option Facts
facts_logged (Ok records) = Some (learned records)
facts_logged (Err fault) = None
