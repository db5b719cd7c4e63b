-- What commands tell of the files that they name, by disks that were opened under these names.
use Rattle.std.specs.Prelude.{◌≡◌, ◌++◌, ℕ, Bool, true, false, List, Option, Result, Ok, Err, codes}
use Rattle.units.specs.Keys.{Bytes, shard_of}
use Rattle.units.specs.declared.fault.Fault.{Fault}
use Rattle.units.specs.declared.line.Verdict.{Verdict}
use Rattle.units.specs.declared.setup.Setup.{Setup}
use Rattle.disk.specs.File.{File, surface}
use Rattle.command_line.specs.Commands.{Asked, told_asked, once_asked, format_asked, play_asked, inspect_asked, drive_asked, dump_asked, history_asked}
use Rattle.command_line.specs.Commands.{get_asked, put_asked, stats_asked, migrate_asked, compact_asked}
use Rattle.command_line.specs.Lines.{Word}
use Rattle.command_line.specs.declared.commands.Form.{Form}
use Rattle.command_line.specs.declared.commands.Form.TheVariants.{Line, Raw, Json}
use Rattle.commands.specs.Replies.{AreNamed, log_name, raw_status, raw_text}
use Rattle.compaction.specs.Compacted.{WasCompacted}
use Rattle.output.specs.Verdicts.{exit_status, text_of}
use Rattle.showing.specs.Dumps.{IsDumpOf}
use Rattle.showing.specs.Files.{IsVerdictOn}
use Rattle.showing.specs.Histories.{value_in}
use Rattle.showing.specs.HistoryTexts.{IsHistoryIn, IsValueIn}
use Rattle.showing.specs.Json.{IsJsonHistoryIn, IsJsonValueIn}
use Rattle.showing.specs.JsonTexts.{AreJsonStatsOf, IsJsonDumpOf}
use Rattle.showing.specs.StatsTexts.{AreStatsOf}
use Rattle.showing.specs.declared.shard_log.Found.{Found}
use Rattle.system.specs.Named.{WasMigrated}

-- the value is the one that a file holds of a key
abbrev pub IsRawIn : Setup → Bytes → Option ℕ → List ℕ → Option Bytes → Type 0
IsRawIn setup k at image value = (found : Found) × (value_in setup k at image ≡ Ok found) × (found.value ≡ value)

-- the log of a key's shard in a folder was opened, for some shards, and on disks that keep the model this holds of it
abbrev pub IsOfKey : {D : Type 0} → Type 0 → (D → File) → (List ℕ → D → Type 0) → Word → Bytes → (Setup → List ℕ → Type 0) → Type 0
IsOfKey {D} keeps file named folder k P =
    (setup : Setup) × (disk : D) × (shard_of setup.splits k ≡ setup.shard) × named (log_name folder setup.shard) disk
    × (keeps → P setup (surface (file disk)).seen)

-- it is the verdict on the logs of these names, and goes with the status
abbrev pub IsVerdictOf : {D : Type 0} → Type 0 → (D → File) → (List ℕ → D → Type 0) → List Word → ℕ → List ℕ → Type 0
IsVerdictOf keeps file named names status text =
    (verdict : Verdict) × (status ≡ exit_status verdict) × (text ≡ text_of verdict ++ codes "\n") × IsVerdictOn keeps file named names verdict

-- it is the history of a key by what a file holds, as JSON or not
abbrev pub IsHistoryAsIn : Bool → Setup → Bytes → List ℕ → List ℕ → Type 0
IsHistoryAsIn false setup k image text = IsHistoryIn setup k image text
IsHistoryAsIn true setup k image text = IsJsonHistoryIn setup k image text

module _ {D : Type 0} (keeps : Type 0) (file : D → File) (named : List ℕ → D → Type 0) where
  -- it is the dump of the file of this name, as JSON or not
  abbrev pub IsDumpAsOf : Bool → Word → List ℕ → Type 0
  IsDumpAsOf false name text = IsDumpOf keeps file named name text
  IsDumpAsOf true name text = IsJsonDumpOf keeps file named name text

  -- what the log of its shard in a folder says of a key: its history, and its value in some form
  abbrev pub IsHistoryAsOf : Bool → Word → Bytes → List ℕ → Type 0
  IsHistoryAsOf json folder k text = IsOfKey keeps file named folder k (λ setup image. IsHistoryAsIn json setup k image text)

  abbrev pub IsValueAsOf : Form → Word → Bytes → Option ℕ → ℕ → List ℕ → Type 0
  IsValueAsOf Line folder k at status text = (status ≡ 0) × IsOfKey keeps file named folder k (λ setup image. IsValueIn setup k at image text)
  IsValueAsOf Json folder k at status text = (status ≡ 0) × IsOfKey keeps file named folder k (λ setup image. IsJsonValueIn setup k at image text)
  IsValueAsOf Raw folder k at status text =
      (value : Option Bytes) × (status ≡ raw_status value) × (text ≡ raw_text value)
      × IsOfKey keeps file named folder k (λ setup image. IsRawIn setup k at image value)

  -- the numbers of the files of these names, or of those that some words name
  abbrev pub AreStatsInOf : Bool → List Word → List ℕ → Type 0
  AreStatsInOf false names text = AreStatsOf keeps file named names text
  AreStatsInOf true names text = AreJsonStatsOf keeps file named names text

  abbrev pub AreStatsAsOf : Bool → List Word → List ℕ → Type 0
  AreStatsAsOf json words text = (names : List Word) × AreNamed words names × AreStatsInOf json names text

  module _ (clock : D → ℕ) (since : D → ℕ → List ℕ → Type 0) where
    -- What a command tells of files is of those that were opened, or made, under the names in its words. Of a schedule, settings and a value no more
    -- is said, and a format, a drive and a put tell of no file.
    abbrev pub IsOfItsFiles : Asked → ℕ → List ℕ → Type 0
    IsOfItsFiles (told_asked words) status text = Unit {0}
    IsOfItsFiles (once_asked key value first second) status text = Unit {0}
    IsOfItsFiles (format_asked name) status text = Unit {0}
    IsOfItsFiles (play_asked name) status text = Unit {0}
    IsOfItsFiles (inspect_asked lines logs) status text = IsVerdictOf keeps file named logs status text
    IsOfItsFiles (drive_asked name table) status text = Unit {0}
    IsOfItsFiles (dump_asked name json) status text = IsDumpAsOf json name text
    IsOfItsFiles (history_asked dir key json) status text = IsHistoryAsOf json dir key text
    IsOfItsFiles (get_asked dir key at form) status text = IsValueAsOf form dir key at status text
    IsOfItsFiles (put_asked dir key value) status text = Unit {0}
    IsOfItsFiles (stats_asked logs json) status text = AreStatsAsOf json logs text
    IsOfItsFiles (migrate_asked old new) status text = WasMigrated keeps file clock since named old new
    IsOfItsFiles (compact_asked old new) status text = WasCompacted keeps file clock since named old new

    -- what the command that some words ask for tells
    abbrev pub IsOfNamedFiles : Result Asked Fault → ℕ → List ℕ → Type 0
    IsOfNamedFiles (Ok asked) status text = IsOfItsFiles asked status text
    IsOfNamedFiles (Err fault) status text = ⊥
