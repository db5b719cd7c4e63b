-- The one spelling of each record. Numbers are big-endian.
use Rattle.std.specs.Prelude.{ℕ, List, [], ◌∷◌, ◌++◌, drop, get_or, length, Option, Some, None, flat_map}
use Rattle.std.specs.Int.{w16, w64, to_be_bytes}
use Rattle.units.specs.Ids.{Id}
use Rattle.units.specs.Keys.{Bytes}
use Rattle.units.specs.Masks.{mask_of}
use Rattle.units.specs.declared.writes.Install.{Install}
use Rattle.units.specs.declared.writes.Write.{Write}
use Rattle.record.specs.declared.record.Committed.{Committed}
use Rattle.record.specs.declared.record.Prepared.{Prepared}
use Rattle.record.specs.declared.record.Record.{Record}
use Rattle.record.specs.declared.record.Record.TheVariants as records

-- a byte of length, and that many bytes
abbrev pub key_spelling : Bytes → List ℕ
key_spelling key = length key ∷ key

-- a count of two bytes, and the keys
abbrev pub keys_spelling : List Bytes → List ℕ
keys_spelling keys = to_be_bytes w16 (length keys) ++ flat_map key_spelling keys

-- an erasure is 0; a value is 1, two bytes of length, and that many bytes
abbrev pub value_spelling : Option Bytes → List ℕ
value_spelling None = 0 ∷ []
value_spelling (Some value) = 1 ∷ to_be_bytes w16 (length value) ++ value

-- a key, and what it is set to
abbrev pub write_spelling : Write → List ℕ
write_spelling write = key_spelling write.key ++ value_spelling write.value

-- a count of two bytes, and the writes
abbrev pub writes_spelling : List Write → List ℕ
writes_spelling writes = to_be_bytes w16 (length writes) ++ flat_map write_spelling writes

-- the run and the number, eight bytes each
abbrev pub id_spelling : Id → List ℕ
id_spelling txn = to_be_bytes w64 txn.run ++ to_be_bytes w64 txn.number

-- the mask of the shards in two bytes
unfoldable pub parts_spelling : List ℕ → List ℕ
parts_spelling parts = to_be_bytes w16 (mask_of parts)

-- a shard's number in one byte
abbrev pub shard_spelling : ℕ → List ℕ
shard_spelling shard = shard ∷ []

-- an abort is 0; a commit is 1 and its timestamp
abbrev pub outcome_spelling : Option ℕ → List ℕ
outcome_spelling None = 0 ∷ []
outcome_spelling (Some at) = 1 ∷ to_be_bytes w64 at

-- what stands behind the byte of the kind of a promise
abbrev pub prepare_spelling : Prepared → List ℕ
prepare_spelling p = id_spelling p.txn ++ shard_spelling p.coordinator ++ to_be_bytes w64 p.at ++ keys_spelling p.reads ++ writes_spelling p.writes

-- what stands behind the byte of the kind of a decision
abbrev pub commit_spelling : Committed → List ℕ
commit_spelling c = id_spelling c.txn ++ to_be_bytes w64 c.at ++ parts_spelling c.parts ++ keys_spelling c.reads ++ writes_spelling c.writes

-- what stands behind the byte of the kind of a base
abbrev pub base_spelling : ℕ → ℕ → ℕ → List ℕ
base_spelling epoch floor horizon = to_be_bytes w64 epoch ++ to_be_bytes w64 floor ++ to_be_bytes w64 horizon

-- of a version
abbrev pub version_spelling : Install → List ℕ
version_spelling i = key_spelling i.key ++ to_be_bytes w64 i.at ++ value_spelling i.value

-- of a decision that has its outcome
abbrev pub settled_spelling : Id → ℕ → List ℕ → List ℕ
settled_spelling txn at parts = id_spelling txn ++ to_be_bytes w64 at ++ parts_spelling parts

-- and of a promise that has its outcome
abbrev pub closed_spelling : Id → ℕ → Option ℕ → List ℕ
closed_spelling txn coordinator outcome = id_spelling txn ++ shard_spelling coordinator ++ outcome_spelling outcome

-- a byte for the kind, and its fields in order
abbrev pub spelling : Record → List ℕ
spelling (records.Opened epoch) = 1 ∷ to_be_bytes w64 epoch
spelling (records.Ceiling at) = 2 ∷ to_be_bytes w64 at
spelling (records.Prepare p) = 3 ∷ prepare_spelling p
spelling (records.Commit c) = 4 ∷ commit_spelling c
spelling (records.Abort txn) = 5 ∷ id_spelling txn
spelling (records.Outcome txn outcome) = 6 ∷ id_spelling txn ++ outcome_spelling outcome
spelling (records.Horizon at) = 7 ∷ to_be_bytes w64 at
spelling (records.Base epoch floor horizon) = 8 ∷ base_spelling epoch floor horizon
spelling (records.Version install) = 9 ∷ version_spelling install
spelling (records.Settled txn at parts) = 10 ∷ settled_spelling txn at parts
spelling (records.Closed txn coordinator outcome) = 11 ∷ closed_spelling txn coordinator outcome
spelling (records.Retired below) = 12 ∷ id_spelling below

-- its first byte tells the kind
abbrev pub kind : Record → ℕ
kind r = get_or (spelling r) 0 0

-- and the others its fields
abbrev pub fields_spelling : Record → List ℕ
fields_spelling r = drop 1 (spelling r)
