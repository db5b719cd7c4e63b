-- Reading a record from left to right: the value and the bytes behind it, or none.
use Rattle.std.specs.Prelude.{ℕ, zero, suc, ◌^◌, ◌&&◌, List, [], ◌∷◌, length, take, drop, Bool, Option, Some, None, nat_lt, nat_le, ◌==◌, if◌then◌else◌}
use Rattle.std.specs.Int.{Width, w16, w64, byte_len, from_be_bytes}
use Rattle.units.specs.Ids.{Id}
use Rattle.units.specs.Keys.{Bytes, key_before, write_before}
use Rattle.units.specs.Lists.{ascends}
use Rattle.units.specs.Masks.{shards_of_mask}
use Rattle.units.specs.declared.writes.Install.{Install}
use Rattle.units.specs.declared.writes.Write.{Write}
use Rattle.record.specs.declared.record.Committed.{Committed}
use Rattle.record.specs.declared.record.Prepared.{Prepared}
use Rattle.record.specs.declared.record.Record.{Record}
use Rattle.record.specs.declared.record.Record.TheVariants as records

infixl 10 ◌>>=◌
-- what is read next, where something was read
abbrev pub ◌>>=◌ : {A B : Type 0} → Option A → (A → Option B) → Option B
(Some x) >>= f = f x
None >>= f = None

-- the value where the test holds
abbrev pub only_if : {A : Type 0} → Bool → A → Option A
only_if test x = if test then Some x else None

-- a number of as many bytes as its width has
abbrev pub number_at : Width → List ℕ → Option (ℕ × List ℕ)
number_at w bytes = only_if (nat_le (byte_len w) (length bytes)) (from_be_bytes w (take (byte_len w) bytes), drop (byte_len w) bytes)

-- a number below 2^62
unfoldable pub stamp_at : List ℕ → Option (ℕ × List ℕ)
stamp_at bytes = do
  n ← number_at w64 bytes
  only_if (nat_lt n.0 (2 ^ 62)) n

-- a number from 1 on, below 2^62
unfoldable pub epoch_at : List ℕ → Option (ℕ × List ℕ)
epoch_at bytes = do
  n ← stamp_at bytes
  only_if (nat_le 1 n.0) n

-- that many bytes
abbrev pub text_at : ℕ → List ℕ → Option (List ℕ × List ℕ)
text_at count bytes = only_if (nat_le count (length bytes)) (take count bytes, drop count bytes)

-- a byte of length from 1 to 64, and that many bytes
unfoldable pub key_at : List ℕ → Option (Bytes × List ℕ)
key_at [] = None
key_at (count ∷ bytes) = if nat_le 1 count && nat_le count 64 then text_at count bytes else None

-- the bytes of a value, behind their number
abbrev pub value_text_at : List ℕ → Option (List ℕ × List ℕ)
value_text_at bytes = number_at w16 bytes >>= λ count. if nat_le count.0 4096 then text_at count.0 count.1 else None

-- an erasure, or a value of at most 4,096 bytes
unfoldable pub value_at : List ℕ → Option (Option Bytes × List ℕ)
value_at [] = None
value_at (zero ∷ bytes) = Some (None, bytes)
value_at (suc zero ∷ bytes) = do
  count ← number_at w16 bytes
  value ← if nat_le count.0 4096 then text_at count.0 count.1 else None
  Some (Some value.0, value.1)
value_at (suc (suc other) ∷ bytes) = None

-- a key, and what it is set to
unfoldable pub write_at : List ℕ → Option (Write × List ℕ)
write_at bytes = do
  key ← key_at bytes
  value ← value_at key.1
  Some (record { key = key.0; value = value.0 }, value.1)

-- that many, one behind the other
unfoldable pub many_at : {A : Type 0} → (List ℕ → Option (A × List ℕ)) → ℕ → List ℕ → Option (List A × List ℕ)
many_at one zero bytes = Some ([], bytes)
many_at one (suc count) bytes = do
  first ← one bytes
  others ← many_at one count first.1
  Some (first.0 ∷ others.0, others.1)

-- a count of at most 128, and that many keys that ascend
unfoldable pub keys_at : List ℕ → Option (List Bytes × List ℕ)
keys_at bytes = do
  count ← number_at w16 bytes
  keys ← if nat_le count.0 128 then many_at key_at count.0 count.1 else None
  only_if (ascends key_before keys.0) keys

-- a count of at most 128, and that many writes whose keys ascend
unfoldable pub writes_at : List ℕ → Option (List Write × List ℕ)
writes_at bytes = do
  count ← number_at w16 bytes
  writes ← if nat_le count.0 128 then many_at write_at count.0 count.1 else None
  only_if (ascends write_before writes.0) writes

-- a run and a number
unfoldable pub id_at : List ℕ → Option (Id × List ℕ)
id_at bytes = do
  run ← epoch_at bytes
  number ← stamp_at run.1
  Some (record { run = run.0; number = number.0 }, number.1)

-- a mask of two bytes that is not 0, as its shards
unfoldable pub parts_at : List ℕ → Option (List ℕ × List ℕ)
parts_at bytes = do
  mask ← number_at w16 bytes
  only_if (nat_le 1 mask.0) (shards_of_mask mask.0, mask.1)

-- a byte below 16
unfoldable pub shard_at : List ℕ → Option (ℕ × List ℕ)
shard_at [] = None
shard_at (shard ∷ bytes) = only_if (nat_lt shard 16) (shard, bytes)

-- an abort, or a commit and its timestamp
unfoldable pub outcome_at : List ℕ → Option (Option ℕ × List ℕ)
outcome_at [] = None
outcome_at (zero ∷ bytes) = Some (None, bytes)
outcome_at (suc zero ∷ bytes) = do
  at ← stamp_at bytes
  Some (Some at.0, at.1)
outcome_at (suc (suc other) ∷ bytes) = None

-- the fields of a promise
unfoldable pub prepare_at : List ℕ → Option (Prepared × List ℕ)
prepare_at bytes = do
  txn ← id_at bytes
  coordinator ← shard_at txn.1
  at ← stamp_at coordinator.1
  reads ← keys_at at.1
  writes ← writes_at reads.1
  Some (record { txn = txn.0; coordinator = coordinator.0; at = at.0; reads = reads.0; writes = writes.0 }, writes.1)

-- the fields of a decision
unfoldable pub commit_at : List ℕ → Option (Committed × List ℕ)
commit_at bytes = do
  txn ← id_at bytes
  at ← stamp_at txn.1
  parts ← parts_at at.1
  reads ← keys_at parts.1
  writes ← writes_at reads.1
  Some (record { txn = txn.0; at = at.0; parts = parts.0; reads = reads.0; writes = writes.0 }, writes.1)

-- a promise and a decision as records
abbrev pub promise_at : List ℕ → Option (Record × List ℕ)
promise_at bytes = prepare_at bytes >>= λ p. Some (records.Prepare p.0, p.1)

abbrev pub decision_at : List ℕ → Option (Record × List ℕ)
decision_at bytes = commit_at bytes >>= λ c. Some (records.Commit c.0, c.1)

-- an id and how it ended
unfoldable pub ended_at : List ℕ → Option ((Id × Option ℕ) × List ℕ)
ended_at bytes = do
  txn ← id_at bytes
  outcome ← outcome_at txn.1
  Some ((txn.0, outcome.0), outcome.1)

-- the fields of a base: an epoch, a floor and a horizon
unfoldable pub base_at : List ℕ → Option ((ℕ × ℕ × ℕ) × List ℕ)
base_at bytes = do
  epoch ← epoch_at bytes
  floor ← stamp_at epoch.1
  horizon ← stamp_at floor.1
  Some ((epoch.0, floor.0, horizon.0), horizon.1)

-- of a version
unfoldable pub version_at : List ℕ → Option (Install × List ℕ)
version_at bytes = do
  key ← key_at bytes
  at ← stamp_at key.1
  value ← value_at at.1
  Some (record { key = key.0; at = at.0; value = value.0 }, value.1)

-- and as a record
abbrev pub listed_at : List ℕ → Option (Record × List ℕ)
listed_at bytes = version_at bytes >>= λ i. Some (records.Version i.0, i.1)

-- of a decision that has its outcome
unfoldable pub settled_at : List ℕ → Option ((Id × ℕ × List ℕ) × List ℕ)
settled_at bytes = do
  txn ← id_at bytes
  at ← stamp_at txn.1
  parts ← parts_at at.1
  Some ((txn.0, at.0, parts.0), parts.1)

-- of a promise that has its outcome
unfoldable pub closed_at : List ℕ → Option ((Id × ℕ × Option ℕ) × List ℕ)
closed_at bytes = do
  txn ← id_at bytes
  coordinator ← shard_at txn.1
  outcome ← outcome_at coordinator.1
  Some ((txn.0, coordinator.0, outcome.0), outcome.1)

-- by the byte of the kind
unfoldable pub record_at : List ℕ → Option (Record × List ℕ)
record_at [] = None
record_at (kind ∷ bytes) =
    if kind == 1 then (epoch_at bytes >>= λ epoch. Some (records.Opened epoch.0, epoch.1))
    else (if kind == 2 then (stamp_at bytes >>= λ at. Some (records.Ceiling at.0, at.1))
    else (if kind == 3 then (prepare_at bytes >>= λ p. Some (records.Prepare p.0, p.1))
    else (if kind == 4 then (commit_at bytes >>= λ c. Some (records.Commit c.0, c.1))
    else (if kind == 5 then (id_at bytes >>= λ txn. Some (records.Abort txn.0, txn.1))
    else (if kind == 6 then (ended_at bytes >>= λ e. Some (records.Outcome e.0.0 e.0.1, e.1))
    else (if kind == 7 then (stamp_at bytes >>= λ at. Some (records.Horizon at.0, at.1))
    else (if kind == 8 then (base_at bytes >>= λ b. Some (records.Base b.0.0 b.0.1 b.0.2, b.1))
    else (if kind == 9 then (version_at bytes >>= λ i. Some (records.Version i.0, i.1))
    else (if kind == 10 then (settled_at bytes >>= λ s. Some (records.Settled s.0.0 s.0.1 s.0.2, s.1))
    else (if kind == 11 then (closed_at bytes >>= λ c. Some (records.Closed c.0.0 c.0.1 c.0.2, c.1))
    else (if kind == 12 then (id_at bytes >>= λ below. Some (records.Retired below.0, below.1)) else None)))))))))))

-- all of the bytes
unfoldable pub read_record : List ℕ → Option Record
read_record bytes = do
  r ← record_at bytes
  only_if (length r.1 == 0) r.0
