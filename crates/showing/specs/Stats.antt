-- What the log in a file holds, as numbers, and what is in doubt in it.
use Rattle.std.specs.Prelude.{◌-◌, ℕ, true, false, List, [], ◌∷◌, ◌++◌, Option, Some, None, Result, Ok, length, map, fold, if◌then◌else◌}
use Rattle.units.specs.Ids.{Id}
use Rattle.units.specs.Keys.{Bytes, has_key}
use Rattle.units.specs.Lists.{gather, head}
use Rattle.units.specs.declared.fault.Fault.{Fault}
use Rattle.units.specs.declared.writes.Install.{Install}
use Rattle.record.specs.Installs.{installs_of}
use Rattle.record.specs.Records.{epoch_of, floor_of}
use Rattle.record.specs.declared.record.Record.{Record}
use Rattle.record.specs.declared.record.Record.TheVariants.{Prepare, Commit, Settled}
use Rattle.gatelog.specs.Gates.{first_gate}
use Rattle.gatelog.specs.Log.{scan}
use Rattle.gatelog.specs.Slots.{begins_in}
use Rattle.frames.specs.Placed.{Placed}
use Rattle.recovery.specs.Recovered.{items}
use Rattle.inspection.specs.Files.{records_behind}
use Rattle.texts.specs.Numbers.{and_then}
use Rattle.showing.specs.Counting.{kinds_of}
use Rattle.showing.specs.Histories.{end_in}
use Rattle.showing.specs.declared.stats.FileNumbers.{FileNumbers}
use Rattle.showing.specs.declared.stats.InDoubt.{InDoubt}
use Rattle.showing.specs.declared.stats.Numbers.{Numbers}

-- some keys with one more, where it is not there
abbrev pub with_key : List Bytes → Bytes → List Bytes
with_key ks k = if has_key ks k then ks else ks ++ k ∷ []

-- the keys of some versions, each once
abbrev pub keys_of : List Install → List Bytes
keys_of installs = fold with_key [] (map (λ i. i.key) installs)

-- the record as a promise or a decision that tells of no end, which is in doubt until there is an outcome
abbrev pub as_begun : Record → Option InDoubt
as_begun (Prepare p) = Some (record { txn = p.txn; at = p.at; is_decided = false })
as_begun (Commit c) = Some (record { txn = c.txn; at = c.at; is_decided = true })
as_begun _ = None

-- it is in doubt, where its transaction has no end
abbrev pub unless_ended : InDoubt → Option (Option ℕ) → Option InDoubt
unless_ended doubt None = Some doubt
unless_ended doubt (Some outcome) = None

abbrev pub doubt_of : (Id → Option (Option ℕ)) → Option InDoubt → Option InDoubt
doubt_of ends None = None
doubt_of ends (Some begun) = unless_ended begun (ends begun.txn)

-- the transactions that a log promises or decides and does not end, in its order
abbrev pub doubts_in : List Record → List InDoubt
doubts_in records = gather (λ r. doubt_of (end_in records) (as_begun r)) records

-- where the area of a log begins: at its first entry, or at its closed gate
abbrev pub area_at : ℕ → List Placed → ℕ
area_at gate [] = gate
area_at gate (e ∷ es) = e.offset

-- the numbers of a file of so many bytes, with so many open slots, a closed gate, and entries before that: what stands before the area is dead
abbrev pub file_of : ℕ → ℕ → ℕ → List Placed → FileNumbers
file_of bytes slots gate entries = record { bytes = bytes; dead = area_at gate entries - first_gate; turnovers = slots }

-- the numbers of a log, in a file with these
abbrev pub numbers_of : FileNumbers → List Record → Numbers
numbers_of file records = record {
  file = file;
  records = length records;
  kinds = kinds_of records;
  keys = length (keys_of (installs_of records));
  versions = length (installs_of records);
  epoch = epoch_of records;
  floor = floor_of records;
  in_doubt = length (doubts_in records);
}

-- the shard that made the decision of a record, the least of its parts
abbrev pub decided_by : Option (List ℕ) → Option ℕ
decided_by None = None
decided_by (Some parts) = head parts

abbrev pub parts_in : Record → Option (List ℕ)
parts_in (Commit c) = Some c.parts
parts_in (Settled t at parts) = Some parts
parts_in _ = None

-- a shard, or the last one
abbrev pub or_last : Option ℕ → ℕ
or_last None = 15
or_last (Some shard) = shard

-- the shard whose log it is, by its first decision; where there is none, the last shard, which takes each promise that any shard takes
abbrev pub shard_told : List Record → ℕ
shard_told records = or_last (head (gather (λ r. decided_by (parts_in r)) records))

-- what the entries of a log tell, where each record follows those before it
abbrev pub stats_by : FileNumbers → List Placed → Result (Numbers × List InDoubt) Fault
stats_by file entries =
    and_then (records_behind (shard_told (items entries)) [] entries) (λ records. Ok (numbers_of file records, doubts_in records))

-- what a file tells, or why it holds no log
abbrev pub stats_in : List ℕ → Result (Numbers × List InDoubt) Fault
stats_in image =
    and_then (scan image) (λ found. stats_by (file_of (length image) (begins_in image).slots found.1 found.0) found.0)
