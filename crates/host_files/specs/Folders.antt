-- What contracts see of a store's folder.
use Rattle.std.specs.Prelude.{◌≡◌, ◌⊎◌, Bool, List, ℕ}
use Rattle.units.specs.declared.fault.Fault.{Fault}
use Rattle.units.specs.declared.fault.Fault.TheVariants.{BadRequest, Damaged, Device, Memory, NotALog, Stranger}
use Rattle.units.specs.declared.fault.Reason.TheVariants as reason
use Rattle.host_files.specs.declared.names.StoreFolder.{StoreFolder}
use Rattle.host_files.specs.declared.refused.Refused.{Refused}
use Rattle.host_files.specs.declared.replacing.Replacing.{Replacing}
use Rattle.filedisk.specs.declared.FileDisk.{FileDisk}

-- every name that was made, changed or taken away in it is on the device
abbrev pub names_are_synced : {R : Type 0} → StoreFolder R → Bool
names_are_synced f = f.synced

-- the new files that have the name of a log, the last one first
abbrev pub placed_last : {R : Type 0} → Replacing R → List FileDisk
placed_last r = r.placed.entries

-- why the logs of a folder are refused: what the system refuses, want of memory, another store's shards or splits, or a log of
-- another shard, or none
abbrev pub IsFolderFault : Fault → Type 0
IsFolderFault fault = (fault ≡ Memory) ⊎ (fault ≡ Device) ⊎ (fault ≡ BadRequest reason.Settings) ⊎ (fault ≡ Stranger)
    ⊎ (fault ≡ NotALog) ⊎ ((offset : ℕ) × (fault ≡ Damaged offset))

-- why a file is refused: what the system refuses, or want of memory
abbrev pub IsSystemFault : Fault → Type 0
IsSystemFault fault = (fault ≡ Memory) ⊎ (fault ≡ Device)

abbrev pub IsSystemRefusal : Refused → Type 0
IsSystemRefusal refused = IsSystemFault refused.fault

abbrev pub IsFolderRefusal : Refused → Type 0
IsFolderRefusal refused = IsFolderFault refused.fault
