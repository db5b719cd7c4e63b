-- How what a core knows agrees with its log.
use Rattle.std.specs.Prelude.{◌≡◌, ◌⊎◌, ℕ, Bool, true, false, List, Some, Ok}
use Rattle.disk.specs.Image.{Surface, MayLeave}
use Rattle.record.specs.declared.record.Record.{Record}
use Rattle.record.specs.Facts.{Facts}
use Rattle.gatelog.specs.Slots.{Beginning, begins_in}
use Rattle.ledger.specs.Keeps.{Alike}
use Rattle.ledger.specs.Turned.{turned}
use Rattle.shard.specs.Logs.{KeepsRecords, HoldsOldOrWith, learned, records_in}

-- each image holds the old records, or these with one more, which a step logs
abbrev pub HoldsStepped : Surface → List Record → Type 0
HoldsStepped disk records = (r : Record) × ((image : List ℕ) → MayLeave disk image → HoldsOldOrWith (Ok records) (Some r) image)

-- each image holds the old records where they began, or those of a renewed log where that begins
pub record HoldsRenewed (disk : Surface) (records renewed : List Record) : Type 0 where
  pub began : Beginning
  pub begins : Beginning
  pub each : (image : List ℕ) → MayLeave disk image → ((records_in image ≡ Ok records) × (begins_in image ≡ began))
      ⊎ ((records_in image ≡ Ok renewed) × (begins_in image ≡ begins))

-- What an image of the disk holds of a core that took in these records, and with that what a read gives: exactly these; or, where it is
-- stopped, these, or these with one more, the record of the step that stopped it; or these, or what they are turned over into.
abbrev pub AreHeld : Bool → Surface → Facts → List Record → Type 0
AreHeld false disk facts records = KeepsRecords disk (Ok records)
AreHeld true disk facts records = HoldsStepped disk records ⊎ HoldsRenewed disk records (turned facts)

-- a core's facts are alike to those of the records that it took in, which its disk holds so
pub record AgreesWithLog (stopped : Bool) (disk : Surface) (facts : Facts) : Type 0 where
  pub records : List Record
  pub learnt : Alike facts (learned records)
  pub held : AreHeld stopped disk facts records
