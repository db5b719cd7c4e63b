-- What is spelled is read again.
use Rattle.std.proofs.Common.{◌≡◌, ℕ, suc, ◌+◌, ◌*◌, ◌^◌, ◌<◌, ◌≤◌, true, leb, ltb, List, [], ◌∷◌, ◌++◌, length, Option, Some, None, refl, sym, ap}
use Rattle.std.proofs.Common.{◌∙◌, append_assoc, arith}
use Rattle.std.specs.Prelude.{IfSome, flat_map}
use Rattle.std.specs.List.{AllByRecursion}
use Rattle.std.specs.Int.{Width, w16, w32, w64, byte_len, from_be_bytes, to_be_bytes}
use Rattle.std.proofs.lemmas.Bool.{le-leb, lt-ltb}
use Rattle.std.proofs.lemmas.List.{take_at, drop_at, length-append, append-nil}
use Rattle.std.proofs.lemmas.Nat.{from_be_bytes-to_be_bytes_2, from_be_bytes-to_be_bytes_4, from_be_bytes-to_be_bytes_8}
use Rattle.units.specs.Ids.{Id}
use Rattle.units.specs.Keys.{Bytes}
use Rattle.units.specs.Masks.{mask_of, shards_of_mask}
use Rattle.units.specs.declared.writes.Install.{Install}
use Rattle.units.specs.declared.writes.Write.{Write}
use Rattle.record.specs.declared.record.Committed.{Committed}
use Rattle.record.specs.declared.record.Prepared.{Prepared}
use Rattle.record.specs.declared.record.Record.{Record}
use Rattle.record.specs.declared.record.Record.TheVariants as records
use Rattle.spelling.specs.Grammar.{key_spelling, keys_spelling, value_spelling, write_spelling, writes_spelling, id_spelling, parts_spelling}
use Rattle.spelling.specs.Grammar.{shard_spelling, outcome_spelling, prepare_spelling, commit_spelling, spelling}
use Rattle.spelling.specs.Limits.{IsStamp, IsEpoch, IsId, IsShard}
use Rattle.spelling.specs.Limits.{IsParts, IsKey, IsKeys, IsWrite, IsWrites, IsPrepare, IsCommit, IsOutcome, IsRecord, IsBase, IsVersion, IsSettled, IsClosed}
use Rattle.spelling.specs.Grammar.{base_spelling, version_spelling, settled_spelling, closed_spelling}
use Rattle.spelling.specs.Reading.{◌>>=◌, only_if, number_at, stamp_at, epoch_at, text_at, key_at, value_at, write_at, many_at, keys_at, writes_at}
use Rattle.spelling.specs.Reading.{id_at, parts_at, shard_at, outcome_at, prepare_at, commit_at, ended_at, record_at, read_record}
use Rattle.spelling.specs.Reading.{base_at, version_at, settled_at, closed_at}

pub record IsWide (w : Width) (limit : ℕ) : Type 0 where
  pub len : (n : ℕ) → length (to_be_bytes w n) ≡ byte_len w
  pub again : (n : ℕ) → n < limit → from_be_bytes w (to_be_bytes w n) ≡ n

pub wide16 : IsWide w16 (2 ^ 16)
wide16 = record { len = λ n. refl; again = λ n lt. from_be_bytes-to_be_bytes_2 n lt }

pub wide32 : IsWide w32 (2 ^ 32)
wide32 = record { len = λ n. refl; again = λ n lt. from_be_bytes-to_be_bytes_4 n lt }

pub wide64 : IsWide w64 (2 ^ 64)
wide64 = record { len = λ n. refl; again = λ n lt. from_be_bytes-to_be_bytes_8 n lt }

pub number_again : (w : Width) (limit : ℕ) (wide : IsWide w limit) (n : ℕ) (rest : List ℕ) → n < limit → number_at w (to_be_bytes w n ++ rest) ≡ Some (n, rest)
number_again w limit wide n rest lt =
    let len = wide.len n in
    let long : leb (byte_len w) (length (to_be_bytes w n ++ rest)) ≡ true = le-leb _ _ (omega (arith, length-append (to_be_bytes w n) rest)) in
    rw (long, take_at (to_be_bytes w n) rest (byte_len w) len, drop_at (to_be_bytes w n) rest (byte_len w) len, wide.again n lt) refl

pub stamp_again : (n : ℕ) (rest : List ℕ) → IsStamp n → stamp_at (to_be_bytes w64 n ++ rest) ≡ Some (n, rest)
unfolding stamp_at
stamp_again n rest lt =
    let small : ltb n (2 ^ 62) ≡ true = lt-ltb _ _ lt in
    rw (number_again w64 (2 ^ 64) wide64 n rest (omega arith), small) refl

pub epoch_again : (n : ℕ) (rest : List ℕ) → IsEpoch n → epoch_at (to_be_bytes w64 n ++ rest) ≡ Some (n, rest)
unfolding epoch_at
epoch_again n rest h =
    let large : leb 1 n ≡ true = le-leb _ _ h.0 in
    rw (stamp_again n rest h.1, large) refl

pub text_again : (text rest : List ℕ) → text_at (length text) (text ++ rest) ≡ Some (text, rest)
text_again text rest =
    let long : leb (length text) (length (text ++ rest)) ≡ true = le-leb _ _ (omega (arith, length-append text rest)) in
    rw (long, take_at text rest (length text) refl, drop_at text rest (length text) refl) refl

pub key_again : (key rest : List ℕ) → IsKey key → key_at (key_spelling key ++ rest) ≡ Some (key, rest)
unfolding key_at
key_again key rest h =
    let least : leb 1 (length key) ≡ true = le-leb _ _ h.0 in
    let most : leb (length key) 64 ≡ true = le-leb _ _ h.1 in
    rw (least, most) (text_again key rest)

pub value_again : (value : Option (List ℕ)) (rest : List ℕ) → IfSome value (λ v. length v ≤ 4096) → value_at (value_spelling value ++ rest) ≡ Some (value, rest)
unfolding value_at
value_again None rest h = refl
value_again (Some v) rest h =
    let most : leb (length v) 4096 ≡ true = le-leb _ _ h in
    rw (number_again w16 (2 ^ 16) wide16 (length v) (v ++ rest) (omega (arith, h)), most, text_again v rest) refl

pub write_again : (write : Write) (rest : List ℕ) → IsWrite write → write_at (write_spelling write ++ rest) ≡ Some (write, rest)
unfolding write_at
write_again write rest h =
    ap write_at (append_assoc (key_spelling write.key) (value_spelling write.value) rest)
    ∙ rw (key_again write.key (value_spelling write.value ++ rest) h.0, value_again write.value rest h.1) refl

pub many_again : {A : Type 0} (one : List ℕ → Option (A × List ℕ)) (spell : A → List ℕ) (Fits : A → Type 0) →
    ((a : A) (rest : List ℕ) → Fits a → one (spell a ++ rest) ≡ Some (a, rest))
    → (as' : List A) (rest : List ℕ) → AllByRecursion Fits as' → many_at one (length as') (flat_map spell as' ++ rest) ≡ Some (as', rest)
unfolding many_at
many_again one spell Fits again [] rest h = refl
many_again one spell Fits again (a ∷ as') rest h =
    ap (many_at one (suc (length as'))) (append_assoc (spell a) (flat_map spell as') rest)
    ∙ rw (again a (flat_map spell as' ++ rest) h.0, many_again one spell Fits again as' rest h.1) refl

pub keys_again : (keys : List (List ℕ)) (rest : List ℕ) → IsKeys keys → keys_at (keys_spelling keys ++ rest) ≡ Some (keys, rest)
unfolding keys_at
keys_again keys rest h =
    let few : leb (length keys) 128 ≡ true = le-leb _ _ h.few in
    ap keys_at (append_assoc (to_be_bytes w16 (length keys)) (flat_map key_spelling keys) rest)
    ∙ rw (
      number_again w16 (2 ^ 16) wide16 (length keys) (flat_map key_spelling keys ++ rest) (omega (arith, h.few)),
      few,
      many_again key_at key_spelling IsKey key_again keys rest h.each,
      h.in_order,
    ) refl

pub writes_again : (writes : List (Write)) (rest : List ℕ) → IsWrites writes → writes_at (writes_spelling writes ++ rest) ≡ Some (writes, rest)
unfolding writes_at
writes_again writes rest h =
    let few : leb (length writes) 128 ≡ true = le-leb _ _ h.few in
    ap writes_at (append_assoc (to_be_bytes w16 (length writes)) (flat_map write_spelling writes) rest)
    ∙ rw (
      number_again w16 (2 ^ 16) wide16 (length writes) (flat_map write_spelling writes ++ rest) (omega (arith, h.few)),
      few,
      many_again write_at write_spelling IsWrite write_again writes rest h.each,
      h.in_order,
    ) refl

five : (a b c d e rest : List ℕ) → ((((a ++ b) ++ c) ++ d) ++ e) ++ rest ≡ a ++ (b ++ (c ++ (d ++ (e ++ rest))))
five a b c d e rest = simp append_assoc

pub id_again : (txn : Id) (rest : List ℕ) → IsId txn → id_at (id_spelling txn ++ rest) ≡ Some (txn, rest)
unfolding id_at
id_again txn rest h =
    ap id_at (append_assoc (to_be_bytes w64 txn.run) (to_be_bytes w64 txn.number) rest)
    ∙ rw (epoch_again txn.run (to_be_bytes w64 txn.number ++ rest) h.0, stamp_again txn.number rest h.1) refl

shards_again : (shards : ℕ → List ℕ) (mask : ℕ) (parts rest : List ℕ) → 1 ≤ mask → mask < 2 ^ 16 → shards mask ≡ parts
    → ◌>>=◌ {B = List ℕ × List ℕ} (number_at w16 (to_be_bytes w16 mask ++ rest)) (λ n. only_if (leb 1 n.0) (shards n.0, n.1)) ≡ Some (parts, rest)
shards_again shards mask parts rest least most is =
    let some : leb 1 mask ≡ true = le-leb _ _ least in
    rw (number_again w16 (2 ^ 16) wide16 mask rest most, some, is) refl

pub parts_again : (parts rest : List ℕ) → IsParts parts → parts_at (parts_spelling parts ++ rest) ≡ Some (parts, rest)
unfolding parts_at parts_spelling
parts_again parts rest h = shards_again shards_of_mask (mask_of parts) parts rest h.some h.below h.shards

pub shard_again : (shard : ℕ) (rest : List ℕ) → IsShard shard → shard_at (shard_spelling shard ++ rest) ≡ Some (shard, rest)
unfolding shard_at
shard_again shard rest h =
    let small : ltb shard 16 ≡ true = lt-ltb _ _ h in
    rw small refl

pub outcome_again : (outcome : Option ℕ) (rest : List ℕ) → IsOutcome outcome → outcome_at (outcome_spelling outcome ++ rest) ≡ Some (outcome, rest)
unfolding outcome_at
outcome_again None rest h = refl
outcome_again (Some at) rest h = rw (stamp_again at rest h) refl

pub prepare_again : (p : Prepared) (rest : List ℕ) → IsPrepare p → prepare_at (prepare_spelling p ++ rest) ≡ Some (p, rest)
unfolding prepare_at
prepare_again p rest h =
    let writes = writes_spelling p.writes in
    let reads = keys_spelling p.reads in
    let at = to_be_bytes w64 p.at in
    let coordinator = shard_spelling p.coordinator in
    let txn = id_spelling p.txn in
    let grouped : prepare_spelling p ++ rest ≡ txn ++ (coordinator ++ (at ++ (reads ++ (writes ++ rest)))) = five txn coordinator at reads writes rest in
    ap prepare_at grouped
    ∙ rw (
      id_again p.txn (coordinator ++ (at ++ (reads ++ (writes ++ rest)))) h.txn,
      shard_again p.coordinator
          (at ++ (reads ++ (writes ++ rest))) h.coordinator,
      stamp_again p.at (reads ++ (writes ++ rest)) h.at,
      keys_again p.reads (writes ++ rest) h.reads,
      writes_again p.writes rest h.writes,
    ) refl

pub commit_again : (c : Committed) (rest : List ℕ) → IsCommit c → commit_at (commit_spelling c ++ rest) ≡ Some (c, rest)
unfolding commit_at
commit_again c rest h =
    let writes = writes_spelling c.writes in
    let reads = keys_spelling c.reads in
    let parts = parts_spelling c.parts in
    let at = to_be_bytes w64 c.at in
    let txn = id_spelling c.txn in
    let grouped : commit_spelling c ++ rest ≡ txn ++ (at ++ (parts ++ (reads ++ (writes ++ rest)))) = five txn at parts reads writes rest in
    ap commit_at grouped
    ∙ rw (
      id_again c.txn (at ++ (parts ++ (reads ++ (writes ++ rest)))) h.txn,
      stamp_again c.at (parts ++ (reads ++ (writes ++ rest))) h.at,
      parts_again c.parts (reads ++ (writes ++ rest)) h.parts,
      keys_again c.reads (writes ++ rest) h.reads,
      writes_again c.writes rest h.writes,
    ) refl

pub ended_again : (txn : Id) (outcome : Option ℕ) (rest : List ℕ) → IsId txn → IsOutcome outcome →
    ended_at (id_spelling txn ++ outcome_spelling outcome ++ rest) ≡ Some ((txn, outcome), rest)
unfolding ended_at
ended_again txn outcome rest h k =
    ap ended_at (append_assoc (id_spelling txn) (outcome_spelling outcome) rest)
    ∙ rw (id_again txn (outcome_spelling outcome ++ rest) h, outcome_again outcome rest k) refl

three : (a b c rest : List ℕ) → ((a ++ b) ++ c) ++ rest ≡ a ++ (b ++ (c ++ rest))
three a b c rest = simp append_assoc

pub base_again : (epoch floor horizon : ℕ) (rest : List ℕ) → IsBase epoch floor horizon →
    base_at (base_spelling epoch floor horizon ++ rest) ≡ Some ((epoch, floor, horizon), rest)
unfolding base_at
base_again epoch floor horizon rest h =
    ap base_at (three (to_be_bytes w64 epoch) (to_be_bytes w64 floor) (to_be_bytes w64 horizon) rest)
    ∙ rw (
      epoch_again epoch (to_be_bytes w64 floor ++ (to_be_bytes w64 horizon ++ rest)) h.epoch,
      stamp_again floor (to_be_bytes w64 horizon ++ rest) h.floor,
      stamp_again horizon rest h.horizon,
    ) refl

pub version_again : (i : Install) (rest : List ℕ) → IsVersion i → version_at (version_spelling i ++ rest) ≡ Some (i, rest)
unfolding version_at
version_again i rest h =
    ap version_at (three (key_spelling i.key) (to_be_bytes w64 i.at) (value_spelling i.value) rest)
    ∙ rw (
      key_again i.key (to_be_bytes w64 i.at ++ (value_spelling i.value ++ rest)) h.key,
      stamp_again i.at (value_spelling i.value ++ rest) h.at,
      value_again i.value rest h.value,
    ) refl

pub settled_again : (txn : Id) (at : ℕ) (parts rest : List ℕ) → IsSettled txn at parts →
    settled_at (settled_spelling txn at parts ++ rest) ≡ Some ((txn, at, parts), rest)
unfolding settled_at
settled_again txn at parts rest h =
    ap settled_at (three (id_spelling txn) (to_be_bytes w64 at) (parts_spelling parts) rest)
    ∙ rw (
      id_again txn (to_be_bytes w64 at ++ (parts_spelling parts ++ rest)) h.txn,
      stamp_again at (parts_spelling parts ++ rest) h.at,
      parts_again parts rest h.parts,
    ) refl

pub closed_again : (txn : Id) (coordinator : ℕ) (outcome : Option ℕ) (rest : List ℕ) → IsClosed txn coordinator outcome →
    closed_at (closed_spelling txn coordinator outcome ++ rest) ≡ Some ((txn, coordinator, outcome), rest)
unfolding closed_at
closed_again txn coordinator outcome rest h =
    ap closed_at (three (id_spelling txn) (shard_spelling coordinator) (outcome_spelling outcome) rest)
    ∙ rw (
      id_again txn (shard_spelling coordinator ++ (outcome_spelling outcome ++ rest)) h.txn,
      shard_again coordinator (outcome_spelling outcome ++ rest) h.coordinator,
      outcome_again outcome rest h.outcome,
    ) refl

-- with whatever stands behind it
pub record_again : (r : Record) (rest : List ℕ) → IsRecord r → record_at (spelling r ++ rest) ≡ Some (r, rest)
unfolding record_at
record_again (records.Opened epoch) rest h = rw (epoch_again epoch rest h) refl
record_again (records.Ceiling at) rest h = rw (stamp_again at rest h) refl
record_again (records.Horizon at) rest h = rw (stamp_again at rest h) refl
record_again (records.Prepare p) rest h = rw (prepare_again p rest h) refl
record_again (records.Commit c) rest h = rw (commit_again c rest h) refl
record_again (records.Abort txn) rest h = rw (id_again txn rest h) refl
record_again (records.Outcome txn outcome) rest h = rw (ended_again txn outcome rest h.0 h.1) refl
record_again (records.Base epoch floor horizon) rest h = rw (base_again epoch floor horizon rest h) refl
record_again (records.Version install) rest h = rw (version_again install rest h) refl
record_again (records.Settled txn at parts) rest h = rw (settled_again txn at parts rest h) refl
record_again (records.Closed txn coordinator outcome) rest h = rw (closed_again txn coordinator outcome rest h) refl
record_again (records.Retired below) rest h = rw (id_again below rest h) refl

pub read_again : (r : Record) → IsRecord r → read_record (spelling r) ≡ Some r
unfolding read_record
read_again r h =
    let whole : record_at (spelling r) ≡ Some (r, []) = ap record_at (sym (append-nil (spelling r))) ∙ record_again r [] h in
    rw whole refl

some_is : {A : Type 0} (x y : A) → ◌≡◌ {A = Option A} (Some x) (Some y) → x ≡ y
some_is x y e = cc

-- no spelling begins another
pub none_begins_another : (r s : Record) (rest : List ℕ) → IsRecord r → IsRecord s → spelling s ≡ spelling r ++ rest → (s ≡ r) × (rest ≡ [])
none_begins_another r s rest fits_r fits_s same =
    let first : record_at (spelling s) ≡ Some (r, rest) = ap record_at same ∙ record_again r rest fits_r in
    let second : record_at (spelling s) ≡ Some (s, []) = ap record_at (sym (append-nil (spelling s))) ∙ record_again s [] fits_s in
    let both : ◌≡◌ {A = Record × List ℕ} (s, []) (r, rest) = some_is (s, []) (r, rest) (sym second ∙ first) in
    (ap (λ (p : Record × List ℕ). p.0) both, sym (ap (λ (p : Record × List ℕ). p.1) both))

-- ---- how long a spelling is

flat_map-most : {A : Type 0} (spell : A → List ℕ) (Fits : A → Type 0) (most : ℕ) → ((a : A) → Fits a → length (spell a) ≤ most) → (as' : List A) →
    AllByRecursion Fits as' → length (flat_map spell as') ≤ most * length as'
flat_map-most spell Fits most each [] h = omega arith
flat_map-most spell Fits most each (a ∷ as') h =
    omega (arith, each a h.0, flat_map-most spell Fits most each as' h.1, length-append (spell a) (flat_map spell as'))

value-most : (value : Option (List ℕ)) → IfSome value (λ v. length v ≤ 4096) → length (value_spelling value) ≤ 4099
value-most None k = omega arith
value-most (Some v) k = omega (arith, k)

write-most : (write : Write) → IsWrite write → length (write_spelling write) ≤ 4164
write-most write h = omega (arith, h.0.1, length-append (key_spelling write.key) (value_spelling write.value), value-most write.value h.1)

pub spelling-least : (r : Record) → 1 ≤ length (spelling r)
spelling-least (records.Opened epoch) = omega arith
spelling-least (records.Ceiling at) = omega arith
spelling-least (records.Horizon at) = omega arith
spelling-least (records.Prepare p) = omega arith
spelling-least (records.Commit c) = omega arith
spelling-least (records.Abort txn) = omega arith
spelling-least (records.Outcome txn outcome) = omega arith
spelling-least (records.Base epoch floor horizon) = omega arith
spelling-least (records.Version install) = omega arith
spelling-least (records.Settled txn at parts) = omega arith
spelling-least (records.Closed txn coordinator outcome) = omega arith
spelling-least (records.Retired below) = omega arith

keys-most : (keys : List Bytes) → IsKeys keys → length (keys_spelling keys) ≤ 8322
keys-most keys h = omega (arith, flat_map-most key_spelling IsKey 65 each keys h.each, h.few)
  where
    each : (key : Bytes) → IsKey key → length (key_spelling key) ≤ 65
    each key k = omega (arith, k.1)

writes-most : (writes : List Write) → IsWrites writes → length (writes_spelling writes) ≤ 532994
writes-most writes h = omega (arith, flat_map-most write_spelling IsWrite 4164 write-most writes h.each, h.few)

length-five : (a b c d e : List ℕ) → length ((((a ++ b) ++ c) ++ d) ++ e) ≡ length a + length b + length c + length d + length e
length-five a b c d e = simp length-append refl

length-three : (a b c : List ℕ) → length ((a ++ b) ++ c) ≡ length a + length b + length c
length-three a b c = simp length-append refl

length-parts : (parts : List ℕ) → length (parts_spelling parts) ≡ 2
unfolding parts_spelling
length-parts parts = refl

outcome-most : (outcome : Option ℕ) → length (outcome_spelling outcome) ≤ 9
outcome-most None = omega arith
outcome-most (Some at) = omega arith

pub spelling-most : (r : Record) → IsRecord r → length (spelling r) ≤ 2 ^ 20
spelling-most (records.Opened epoch) h = omega arith
spelling-most (records.Ceiling at) h = omega arith
spelling-most (records.Horizon at) h = omega arith
spelling-most (records.Prepare p) h =
    omega (
      arith,
      length-five (id_spelling p.txn) (shard_spelling p.coordinator) (to_be_bytes w64 p.at) (keys_spelling p.reads)
          (writes_spelling p.writes),
      keys-most p.reads h.reads,
      writes-most p.writes h.writes,
    )
spelling-most (records.Commit c) h =
    omega (
      arith,
      length-five (id_spelling c.txn) (to_be_bytes w64 c.at) (parts_spelling c.parts) (keys_spelling c.reads) (writes_spelling c.writes),
      length-parts c.parts,
      keys-most c.reads h.reads,
      writes-most c.writes h.writes,
    )
spelling-most (records.Abort txn) h = omega arith
spelling-most (records.Retired below) h = omega arith
spelling-most (records.Outcome txn outcome) h = omega (arith, length-append (id_spelling txn) (outcome_spelling outcome), outcome-most outcome)
spelling-most (records.Base epoch floor horizon) h = omega arith
spelling-most (records.Version i) h =
    omega (
      arith,
      h.key.1,
      length-three (key_spelling i.key) (to_be_bytes w64 i.at) (value_spelling i.value),
      value-most i.value h.value,
    )
spelling-most (records.Settled txn at parts) h =
    omega (arith, length-three (id_spelling txn) (to_be_bytes w64 at) (parts_spelling parts), length-parts parts)
spelling-most (records.Closed txn coordinator outcome) h =
    omega (arith, length-three (id_spelling txn) (shard_spelling coordinator) (outcome_spelling outcome), outcome-most outcome)
