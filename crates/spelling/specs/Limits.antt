-- The limits that records keep, and what it is to spell one.
use Rattle.std.specs.Prelude.{◌≡◌, ℕ, ◌<◌, ◌≤◌, ◌^◌, List, [], ◌++◌, length, Option, IfSome, IsTrue}
use Rattle.std.specs.List.{AllByRecursion}
use Rattle.units.specs.Ids.{Id}
use Rattle.units.specs.Keys.{Bytes, key_before, write_before}
use Rattle.units.specs.Lists.{ascends}
use Rattle.units.specs.Masks.{mask_of, shards_of_mask}
use Rattle.units.specs.declared.writes.Install.{Install}
use Rattle.units.specs.declared.writes.Write.{Write}
use Rattle.record.specs.declared.record.Committed.{Committed}
use Rattle.record.specs.declared.record.Prepared.{Prepared}
use Rattle.record.specs.declared.record.Record.{Record}
use Rattle.record.specs.declared.record.Record.TheVariants as records
use Rattle.spelling.specs.Grammar.{spelling}

-- a timestamp's limit
abbrev pub IsStamp : ℕ → Type 0
IsStamp n = n < 2 ^ 62

-- an epoch's limits, and those of a run
abbrev pub IsEpoch : ℕ → Type 0
IsEpoch n = (1 ≤ n) × (n < 2 ^ 62)

-- an id's limits
abbrev pub IsId : Id → Type 0
IsId txn = IsEpoch txn.run × IsStamp txn.number

-- the limits of a shard's number
abbrev pub IsShard : ℕ → Type 0
IsShard n = n < 16

-- the shards of a mask of 16 bits, at least one
pub record IsParts (parts : List ℕ) : Type 0 where
  pub some : 1 ≤ mask_of parts
  pub below : mask_of parts < 2 ^ 16
  pub shards : shards_of_mask (mask_of parts) ≡ parts

-- a key's limits
abbrev pub IsKey : Bytes → Type 0
IsKey key = (1 ≤ length key) × (length key ≤ 64)

-- at most 128 keys, strictly ascending
pub record IsKeys (keys : List Bytes) : Type 0 where
  pub few : length keys ≤ 128
  pub in_order : IsTrue (ascends key_before keys)
  pub each : AllByRecursion IsKey keys

-- the limits of a value, where there is one
abbrev pub IsValue : Option Bytes → Type 0
IsValue value = IfSome value (λ bytes. length bytes ≤ 4096)

-- a write's limits
abbrev pub IsWrite : Write → Type 0
IsWrite write = IsKey write.key × IsValue write.value

-- at most 128 writes, their keys strictly ascending
pub record IsWrites (writes : List Write) : Type 0 where
  pub few : length writes ≤ 128
  pub in_order : IsTrue (ascends write_before writes)
  pub each : AllByRecursion IsWrite writes

-- the limits of a promise
pub record IsPrepare (p : Prepared) : Type 0 where
  pub txn : IsId p.txn
  pub coordinator : IsShard p.coordinator
  pub at : IsStamp p.at
  pub reads : IsKeys p.reads
  pub writes : IsWrites p.writes

-- the limits of a decision
pub record IsCommit (c : Committed) : Type 0 where
  pub txn : IsId c.txn
  pub at : IsStamp c.at
  pub parts : IsParts c.parts
  pub reads : IsKeys c.reads
  pub writes : IsWrites c.writes

-- the limits of an outcome: those of its timestamp, where there is one
abbrev pub IsOutcome : Option ℕ → Type 0
IsOutcome outcome = IfSome outcome IsStamp

-- the limits of a base
pub record IsBase (e f h : ℕ) : Type 0 where
  pub epoch : IsEpoch e
  pub floor : IsStamp f
  pub horizon : IsStamp h

-- of a version
pub record IsVersion (i : Install) : Type 0 where
  pub key : IsKey i.key
  pub at : IsStamp i.at
  pub value : IsValue i.value

-- of a decision that has its outcome
pub record IsSettled (t : Id) (stamp : ℕ) (shards : List ℕ) : Type 0 where
  pub txn : IsId t
  pub at : IsStamp stamp
  pub parts : IsParts shards

-- and of a promise that has its outcome
pub record IsClosed (t : Id) (shard : ℕ) (end : Option ℕ) : Type 0 where
  pub txn : IsId t
  pub coordinator : IsShard shard
  pub outcome : IsOutcome end

-- the limits of a record; the types of its parts keep them
abbrev pub IsRecord : Record → Type 0
IsRecord (records.Opened epoch) = IsEpoch epoch
IsRecord (records.Ceiling at) = IsStamp at
IsRecord (records.Prepare p) = IsPrepare p
IsRecord (records.Commit c) = IsCommit c
IsRecord (records.Abort txn) = IsId txn
IsRecord (records.Outcome txn outcome) = IsId txn × IsOutcome outcome
IsRecord (records.Horizon at) = IsStamp at
IsRecord (records.Base epoch floor horizon) = IsBase epoch floor horizon
IsRecord (records.Version install) = IsVersion install
IsRecord (records.Settled txn at parts) = IsSettled txn at parts
IsRecord (records.Closed txn coordinator outcome) = IsClosed txn coordinator outcome
IsRecord (records.Retired below) = IsId below

-- these bytes spell this record
abbrev pub Spells : List ℕ → Record → Type 0
Spells bytes r = IsRecord r × (bytes ≡ spelling r)

-- no spelling begins another: where one of two begins the other, both are of one record
abbrev pub NoneBeginsAnother : Type 0
NoneBeginsAnother = (r s : Record) (rest : List ℕ) → IsRecord r → IsRecord s → spelling s ≡ spelling r ++ rest → (s ≡ r) × (rest ≡ [])
