-- For which faults commands over files are refused.
use Rattle.std.specs.Prelude.{◌≡◌, ◌⊎◌, ℕ, Result, Ok, Err}
use Rattle.units.specs.declared.fault.Fault.{Fault}
use Rattle.units.specs.declared.fault.Fault.TheVariants.{BadRequest, Device, Memory}
use Rattle.units.specs.declared.fault.Reason.TheVariants.{Settings, Unlawful}
use Rattle.units.specs.declared.fault.Reason.TheVariants as reason
use Rattle.command_line.specs.Commands.{Asked, told_asked, once_asked, format_asked, play_asked, inspect_asked, drive_asked, dump_asked, history_asked}
use Rattle.command_line.specs.Commands.{get_asked, put_asked, stats_asked, migrate_asked, compact_asked}
use Rattle.client.specs.declared.ended.Ended.{Ended}
use Rattle.commands.specs.declared.engine.Put.{Put}
use Rattle.compaction.specs.Compacted.{IsNotCompacted}
use Rattle.system.specs.declared.asked.NoVerdict.{NoVerdict}
use Rattle.showing.specs.Files.{IsNotJudged}
use Rattle.output.specs.declared.failure.Failure.{Failure}
use Rattle.output.specs.declared.failure.Failure.TheVariants.{Refused, Unwritten}
use Rattle.script.specs.Refusals.{IsNoSchedule}
use Rattle.showing.specs.Dumps.{IsNotShown}
use Rattle.showing.specs.HistoryTexts.{IsNotTold}
use Rattle.system.specs.Refusals.{IsNotMigrated}
use Rattle.system.specs.declared.asked.Driven.{Driven}

-- memory is wanting, or the system refuses the file
abbrev pub IsNotMade : Fault → Type 0
IsNotMade fault = (fault ≡ Memory) ⊎ (fault ≡ Device)

-- memory is wanting, or a text is not the manifest of a store
abbrev pub IsNoManifest : Fault → Type 0
IsNoManifest fault = (fault ≡ Memory) ⊎ (fault ≡ BadRequest Settings)

-- the folder of a store is not read: besides, where the system refuses a file
abbrev pub IsUnreadStore : Fault → Type 0
IsUnreadStore fault = (fault ≡ Memory) ⊎ ((fault ≡ Device) ⊎ (fault ≡ BadRequest Settings))

-- a log is not shown, or the folder of a store is not read
abbrev pub IsNotCounted : Fault → Type 0
IsNotCounted fault = IsNotShown fault ⊎ IsUnreadStore fault

-- the file is not read, it holds no schedule, or an event may not happen
abbrev pub IsNotPlayed : Fault → Type 0
IsNotPlayed fault = IsNotMade fault ⊎ (IsNoSchedule fault ⊎ ((event : ℕ) × (fault ≡ BadRequest (Unlawful event))))

-- the file is not read, it holds no settings, or what drives shards by them refuses for this
abbrev pub IsNotDriven : (Fault → Type 0) → Fault → Type 0
IsNotDriven drives fault = IsNotMade fault ⊎ ((fault ≡ BadRequest Settings) ⊎ drives fault)

-- a call by some settings may be refused for this
abbrev pub IsRefusedBy : {S : Type 0} → (S → Result Driven NoVerdict → Type 0) → Fault → Type 0
IsRefusedBy {S} call fault = (settings : S) × (none : NoVerdict) × call settings (Err none) × (none.fault ≡ fault)

-- no value is had: besides, if it is too long
abbrev pub IsNoValue : Fault → Type 0
IsNoValue fault = IsNotMade fault ⊎ (fault ≡ BadRequest reason.Value)

-- no value is had, the folder of a store is not read, or what puts a write refuses for this
abbrev pub IsNotPut : (Fault → Type 0) → Fault → Type 0
IsNotPut puts fault = IsNoValue fault ⊎ (IsUnreadStore fault ⊎ puts fault)

-- a call that is to put some write may be refused for this
abbrev pub IsUnputBy : (Put → Result Ended Fault → Type 0) → Fault → Type 0
IsUnputBy call fault = (write : Put) × call write (Err fault)

-- what a command may be refused for, where its words do not tell it, by what a drive and what a write are refused for
abbrev pub MayRefuse : (Fault → Type 0) → (Fault → Type 0) → Asked → Fault → Type 0
MayRefuse drives puts (told_asked words) fault = Unit {0}
MayRefuse drives puts (once_asked key value first second) fault = Unit {0}
MayRefuse drives puts (format_asked file) fault = IsNotMade fault
MayRefuse drives puts (play_asked file) fault = IsNotPlayed fault
MayRefuse drives puts (inspect_asked lines logs) fault = IsNotJudged fault
MayRefuse drives puts (drive_asked file table) fault = IsNotDriven drives fault
MayRefuse drives puts (dump_asked file json) fault = IsNotShown fault
MayRefuse drives puts (history_asked dir key json) fault = IsNotTold fault
MayRefuse drives puts (get_asked dir key at form) fault = IsNotTold fault
MayRefuse drives puts (put_asked dir key value) fault = IsNotPut puts fault
MayRefuse drives puts (stats_asked logs json) fault = IsNotCounted fault
MayRefuse drives puts (migrate_asked old new) fault = IsNotMigrated fault
MayRefuse drives puts (compact_asked old new) fault = IsNotCompacted fault

abbrev pub MayRefuseTo : (Fault → Type 0) → (Fault → Type 0) → Result Asked Fault → Fault → Type 0
MayRefuseTo drives puts (Ok asked) fault = MayRefuse drives puts asked fault
MayRefuseTo drives puts (Err why) fault = Unit {0}

-- a write failed, or a command is refused for such a fault
abbrev pub FailsAs : (Fault → Type 0) → Failure → Type 0
FailsAs refuses failure = (failure ≡ Unwritten) ⊎ ((fault : Fault) × (failure ≡ Refused fault) × refuses fault)
