-- The one shard of `once`, by the records of its log.
use Rattle.std.specs.Prelude.{◌≡◌, ℕ, ◌*◌, ◌^◌, ◌≤◌, Bool, true, false, List, [], ◌∷◌, ◌++◌, length, nat_eq, Some, Ok, IsFalse}
use Rattle.units.specs.Keys.{Bytes}
use Rattle.units.specs.declared.setup.Setup.{Setup}
use Rattle.units.specs.declared.setup.Book.TheVariants.{Off}
use Rattle.units.specs.declared.writes.Write.{Write}
use Rattle.disk.specs.File.{surface}
use Rattle.disk.specs.declared.plan.FailurePlan.TheVariants.{Never}
use Rattle.record.specs.declared.record.Record.{Record}
use Rattle.message.specs.declared.message.Input.{Input}
use Rattle.message.specs.declared.message.Message.{Message}
use Rattle.protocol.specs.Rows.{rebuilt}
use Rattle.protocol.specs.Outputs.{decision}
use Rattle.simdisk.specs.State.{disk_file, disk_plan}
use Rattle.simdisk.specs.declared.simdisk.SimDisk.{SimDisk}
use Rattle.shard.specs.Logs.{learned, records_in, KeepsRecords}
use Rattle.shard.specs.On.{CoreView}
use Rattle.truetime.specs.Interval.{Interval}
use Rattle.once.specs.Replies.{first_stamp, only_txn}

-- the shard of all keys
abbrev pub only_setup : Setup
only_setup = record { shard = 0; splits = []; stride = 0; book = Off }

-- its one write
abbrev pub only_write : Bytes → Bytes → List Write
only_write key value = record { key = key; value = Some value } ∷ []

-- what asks for it: a commit that reads nothing
abbrev pub only_commit : Bytes → Bytes → Input
only_commit key value =
    Input.Deliver (Message.Commit (record { txn = only_txn; parts = 0 ∷ []; reads = record { epoch = 0; keys = [] }; writes = only_write key value }))

-- the log when the shard is new
abbrev pub new_log : List Record
new_log = Record.Opened 1 ∷ []

-- the log when the write is decided at a timestamp
abbrev pub decided_log : Bytes → Bytes → ℕ → List Record
decided_log key value s = new_log ++ decision only_txn s (0 ∷ []) [] (only_write key value) ∷ []

-- the log when it is settled
abbrev pub settled_log : Bytes → Bytes → ℕ → List Record
settled_log key value s = decided_log key value s ++ Record.Outcome only_txn (Some s) ∷ []

-- the log behind a settling, by whether it is done
abbrev pub log_after : Bool → Bytes → Bytes → ℕ → List Record
log_after true = settled_log
log_after false = decided_log

-- the disk holds these records, also after a crash
pub record HoldsRecords (records : List Record) (disk : SimDisk) : Type 0 where
  pub read : records_in (surface (disk_file disk)).seen ≡ Ok records
  pub durable : KeepsRecords (surface (disk_file disk)) (Ok records)

-- a disk behind `once`: it holds the commit at its timestamp, and its end where the status is 0
abbrev pub IsLogged : Bytes → Bytes → Interval → ℕ → SimDisk → Type 0
IsLogged key value first status disk =
    (stamp : ℕ) × (first_stamp first ≡ Ok stamp) × HoldsRecords (log_after (nat_eq status 0) key value stamp) disk

-- the shard runs on a disk that does not fail; its log has these records, also after a crash, and ends far from its limit;
-- what it keeps in memory is what an opening of that log would find
pub record HasLog (records : List Record) (core : CoreView SimDisk) : Type 0 where
  pub setup : core.setup ≡ only_setup
  pub facts : core.facts ≡ learned records
  pub memory : core.memory ≡ rebuilt (learned records)
  pub gate : core.gate ≤ 2 ^ 21 * length records
  pub running : IsFalse core.stopped
  pub plan : disk_plan core.disk ≡ Never
  pub read : records_in (surface (disk_file core.disk)).seen ≡ Ok records
  pub durable : KeepsRecords (surface (disk_file core.disk)) (Ok records)
