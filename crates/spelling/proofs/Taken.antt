-- What is read is spelled so, each byte of it, and is within the limits.
use Rattle.std.proofs.Common.{◌≡◌, ◌⊎◌, inl, inr, ℕ, zero, suc, ◌+◌, ◌^◌, ◌<◌, ◌≤◌, ◌&&◌, Bool, true, false, cond, eqb, leb, ltb, List, [], ◌∷◌, ◌++◌}
use Rattle.std.proofs.Common.{length, get_or, take, drop, Option, Some, None, refl, sym, ap, subst, ◌∙◌, append_assoc, arith}
use Rattle.std.specs.Prelude.{flat_map}
use Rattle.std.specs.List.{AllByRecursion}
use Rattle.std.specs.Int.{Width, w16, w64, byte_len, from_be_bytes, to_be_bytes}
use Rattle.std.proofs.lemmas.Bool.{cases_lt, leb-true, ltb-true, eqb-true, and_parts}
use Rattle.std.proofs.lemmas.List.{append-nil, nil_from_length, take-append-drop, length-take-le, get_or-drop, get_or-take, get_or_past, length-take}
use Rattle.std.proofs.lemmas.Nat.{be_bytes_2, be_bytes_8}
use Rattle.units.specs.Ids.{Id}
use Rattle.units.specs.Keys.{Bytes, key_before, write_before}
use Rattle.units.specs.Lists.{ascends}
use Rattle.units.specs.Masks.{mask_of, shards_of_mask}
use Rattle.units.specs.Parts.{mask_again}
use Rattle.units.specs.declared.writes.Install.{Install}
use Rattle.units.specs.declared.writes.Write.{Write}
use Rattle.record.specs.declared.record.Committed.{Committed}
use Rattle.record.specs.declared.record.Prepared.{Prepared}
use Rattle.record.specs.declared.record.Record.{Record}
use Rattle.record.specs.declared.record.Record.TheVariants as records
use Rattle.spelling.specs.Grammar.{key_spelling, keys_spelling, value_spelling, write_spelling, writes_spelling, id_spelling, parts_spelling}
use Rattle.spelling.specs.Grammar.{shard_spelling, outcome_spelling, prepare_spelling, commit_spelling, spelling}
use Rattle.spelling.specs.Limits.{IsStamp, IsEpoch, IsId, IsShard}
use Rattle.spelling.specs.Limits.{IsParts, IsKey, IsKeys, IsValue, IsWrite, IsWrites, IsPrepare, IsCommit, IsOutcome, IsRecord, Spells}
use Rattle.spelling.specs.Grammar.{base_spelling, version_spelling, settled_spelling, closed_spelling}
use Rattle.spelling.specs.Limits.{IsBase, IsVersion, IsSettled, IsClosed}
use Rattle.spelling.specs.Reading.{◌>>=◌, only_if, number_at, stamp_at, epoch_at, text_at, key_at, value_at, write_at, many_at, keys_at, writes_at}
use Rattle.spelling.specs.Reading.{id_at, parts_at, shard_at, outcome_at, prepare_at, commit_at, ended_at, record_at, read_record}
use Rattle.spelling.specs.Reading.{base_at, version_at, settled_at, closed_at}
use Rattle.spelling.proofs.Loop.{bind_some, some_is}

abbrev pub IsBytes : List ℕ → Type 0
IsBytes bytes = (i : ℕ) → get_or bytes i 0 < 256

bytes-drop : (n : ℕ) (bytes : List ℕ) → IsBytes bytes → IsBytes (drop n bytes)
bytes-drop n bytes h i = rw get_or-drop (h (n + i))

bytes-take : (n : ℕ) (bytes : List ℕ) → IsBytes bytes → IsBytes (take n bytes)
bytes-take n bytes h i = elim (cases_lt i n) [
  | inl lt ↦ rw (get_or-take n bytes i 0 lt) (h i)
  | inr le ↦ rw (get_or_past (take n bytes) i 0 (omega (arith, length-take n bytes))) (omega arith)
]

-- these bytes are this text and a rest
pub record Taken (bytes text rest : List ℕ) : Type 0 where
  pub parts : bytes ≡ text ++ rest
  pub rest_fits : IsBytes rest

taken_then : (a x b y c : List ℕ) → Taken a x b → Taken b y c → Taken a (x ++ y) c
taken_then a x b y c p q = record { parts = p.parts ∙ ap (λ (t : List ℕ). x ++ t) q.parts ∙ sym (append_assoc x y c); rest_fits = q.rest_fits }

-- what this reader reads is spelled so, and fits
abbrev pub Reads : {A : Type 0} → (List ℕ → Option (A × List ℕ)) → (A → List ℕ) → (A → Type 0) → Type 0
Reads {A} one spell Fits = (bytes : List ℕ) (x : A × List ℕ) → IsBytes bytes → one bytes ≡ Some x → Taken bytes (spell x.0) x.1 × Fits x.0

-- ---- tests

only_some : {A : Type 0} (test : Bool) (x y : A) → only_if test x ≡ Some y → (test ≡ true) × (x ≡ y)
only_some true x y e = (refl, cc)
only_some false x y e = absurd cc

if_some : {A : Type 0} (test : Bool) (o : Option A) (y : A) → cond test o None ≡ Some y → (test ≡ true) × (o ≡ Some y)
if_some true o y e = (refl, e)
if_some false o y e = absurd cc

-- ---- fields

pub record IsExact (w : Width) (limit : ℕ) : Type 0 where
  pub back : (bytes : List ℕ) → length bytes ≡ byte_len w → IsBytes bytes → to_be_bytes w (from_be_bytes w bytes) ≡ bytes
  pub below : (bytes : List ℕ) → IsBytes bytes → from_be_bytes w bytes < limit

exact16 : IsExact w16 (2 ^ 16)
exact16 = record { back = λ bytes len fits. be_bytes_2 bytes _ len fits refl; below = λ bytes fits. omega (arith, fits 0, fits 1) }

exact64 : IsExact w64 (2 ^ 64)
exact64 = record {
  back = λ bytes len fits. be_bytes_8 bytes _ len fits refl;
  below = λ bytes fits. omega
      (arith, fits 0, fits 1, fits 2, fits 3, fits 4, fits 5, fits 6, fits 7);
}

number_reads : (w : Width) (limit : ℕ) → IsExact w limit → Reads (number_at w) (to_be_bytes w) (λ n. n < limit)
number_reads w limit exact bytes x fits e =
    let count = byte_len w in
    let g = only_some (leb count (length bytes)) (from_be_bytes w (take count bytes), drop count bytes) x e in
    let long : count ≤ length bytes = leb-true _ _ g.0 in
    let n-is : from_be_bytes w (take count bytes) ≡ x.0 = ap (λ (p : ℕ × List ℕ). p.0) g.1 in
    let rest-is : drop count bytes ≡ x.1 = ap (λ (p : ℕ × List ℕ). p.1) g.1 in
    let front : to_be_bytes w x.0 ≡ take count bytes = ap (to_be_bytes w) (sym n-is) ∙ exact.back (take count bytes)
    (length-take-le count bytes long) (bytes-take count bytes fits) in (
      record {
        parts = sym (take-append-drop count bytes) ∙ ap (λ (t : List ℕ). t ++ drop count bytes) (sym front)
            ∙ ap (λ (t : List ℕ). to_be_bytes w x.0 ++ t) rest-is;
        rest_fits = subst IsBytes rest-is (bytes-drop count bytes fits);
      },
      subst (λ (n : ℕ). n < limit) n-is (exact.below (take count bytes) (bytes-take count bytes fits)),
    )

stamp_reads : Reads stamp_at (to_be_bytes w64) IsStamp
unfolding stamp_at
stamp_reads bytes x fits e =
    let a = bind_some (number_at w64 bytes) (λ n. only_if (ltb n.0 (2 ^ 62)) n) x e in
    let g = only_some (ltb a.0.0 (2 ^ 62)) a.0 x a.2 in
    subst (λ (y : ℕ × List ℕ). Taken bytes (to_be_bytes w64 y.0) y.1 × IsStamp y.0) g.1 (
      (number_reads w64 (2 ^ 64) exact64 bytes a.0 fits a.1).0,
      ltb-true _ _ g.0,
    )

epoch_reads : Reads epoch_at (to_be_bytes w64) IsEpoch
unfolding epoch_at
epoch_reads bytes x fits e =
    let a = bind_some (stamp_at bytes) (λ n. only_if (leb 1 n.0) n) x e in
    let g = only_some (leb 1 a.0.0) a.0 x a.2 in
    let s = stamp_reads bytes a.0 fits a.1 in
    subst (λ (y : ℕ × List ℕ). Taken bytes (to_be_bytes w64 y.0) y.1 × IsEpoch y.0) g.1 (s.0, (leb-true _ _ g.0, s.1))

text_reads : (count : ℕ) (bytes : List ℕ) (x : List ℕ × List ℕ) → IsBytes bytes → text_at count bytes ≡ Some x → Taken bytes x.0 x.1 × (length x.0 ≡ count)
text_reads count bytes x fits e =
    let g = only_some (leb count (length bytes)) (take count bytes, drop count bytes) x e in
    subst (λ (y : List ℕ × List ℕ). Taken bytes y.0 y.1 × (length y.0 ≡ count)) g.1
    (record { parts = sym (take-append-drop count bytes); rest_fits = bytes-drop count bytes fits }, length-take-le count bytes (leb-true _ _ g.0))

bytes-behind : (byte : ℕ) (bytes : List ℕ) → IsBytes (byte ∷ bytes) → IsBytes bytes
bytes-behind byte bytes fits i = fits (suc i)

-- a byte in front
behind_byte : (byte : ℕ) (bytes text rest : List ℕ) → Taken bytes text rest → Taken (byte ∷ bytes) (byte ∷ text) rest
behind_byte byte bytes text rest t = record { parts = ap (λ (l : List ℕ). byte ∷ l) t.parts; rest_fits = t.rest_fits }

key_reads : Reads key_at key_spelling IsKey
unfolding key_at
key_reads [] x fits e = absurd cc
key_reads (count ∷ bytes) x fits e =
    let t = if_some (leb 1 count && leb count 64) (text_at count bytes) x e in
    let limits = and_parts (leb 1 count) (leb count 64) t.0 in
    let least : 1 ≤ count = leb-true _ _ limits.0 in
    let most : count ≤ 64 = leb-true _ _ limits.1 in
    let text = text_reads count bytes x (bytes-behind count bytes fits) t.1 in (
      subst (λ (n : ℕ). Taken (count ∷ bytes) (n ∷ x.0) x.1) (sym text.1) (behind_byte count bytes x.0 x.1 text.0),
      (omega (arith, text.1, least), omega (arith, text.1, most)),
    )

value_reads : Reads value_at value_spelling IsValue
unfolding value_at
value_reads [] x fits e = absurd cc
value_reads (zero ∷ bytes) x fits e =
    subst (λ (y : Option (List ℕ) × List ℕ). Taken (0 ∷ bytes) (value_spelling y.0) y.1 × IsValue y.0) (some_is (None, bytes) x e)
    (record { parts = refl; rest_fits = bytes-behind 0 bytes fits }, tt)
value_reads (suc zero ∷ bytes) x fits e =
    let a = bind_some (number_at w16 bytes) (λ count. (cond (leb count.0 4096) (text_at count.0 count.1) None) >>= λ value. Some (Some value.0, value.1)) x e in
    let b = bind_some (cond (leb a.0.0 4096) (text_at a.0.0 a.0.1) None) (λ value. Some (Some value.0, value.1)) x a.2 in
    let t = if_some (leb a.0.0 4096) (text_at a.0.0 a.0.1) b.0 b.1 in
    let n = number_reads w16 (2 ^ 16) exact16 bytes a.0 (bytes-behind 1 bytes fits) a.1 in
    let text = text_reads a.0.0 a.0.1 b.0 n.0.rest_fits t.1 in
    let both = taken_then bytes (to_be_bytes w16 a.0.0) a.0.1 b.0.0 b.0.1 n.0 text.0 in
    let sized : Taken bytes (to_be_bytes w16 (length b.0.0) ++ b.0.0) b.0.1 = subst (λ (k : ℕ). Taken bytes (to_be_bytes w16 k ++ b.0.0) b.0.1)
    (sym text.1) both in
    subst (λ (y : Option (List ℕ) × List ℕ). Taken (1 ∷ bytes) (value_spelling y.0) y.1 × IsValue y.0) (some_is (Some b.0.0, b.0.1) x b.2)
    (behind_byte 1 bytes (to_be_bytes w16 (length b.0.0) ++ b.0.0) b.0.1 sized, omega (arith, text.1, leb-true a.0.0 4096 t.0))
value_reads (suc (suc other) ∷ bytes) x fits e = absurd cc

write_reads : Reads write_at write_spelling IsWrite
unfolding write_at
write_reads bytes x fits e =
    let a = bind_some (key_at bytes) (λ key. value_at key.1 >>= λ value. Some (record { key = key.0; value = value.0 }, value.1)) x e in
    let b = bind_some (value_at a.0.1) (λ value. Some (record { key = a.0.0; value = value.0 }, value.1)) x a.2 in
    let key = key_reads bytes a.0 fits a.1 in
    let value = value_reads a.0.1 b.0 key.0.rest_fits b.1 in
    subst (λ (y : Write × List ℕ). Taken bytes (write_spelling y.0) y.1 × IsWrite y.0) (some_is (record { key = a.0.0; value = b.0.0 }, b.0.1) x b.2)
    (taken_then bytes (key_spelling a.0.0) a.0.1 (value_spelling b.0.0) b.0.1 key.0 value.0, (key.1, value.1))

many_read : {A : Type 0} (one : List ℕ → Option (A × List ℕ)) (spell : A → List ℕ) (Fits : A → Type 0) → Reads one spell Fits → (count : ℕ) →
    Reads (many_at one count) (flat_map spell) (λ xs. (length xs ≡ count) × AllByRecursion Fits xs)
unfolding many_at
many_read {A} one spell Fits reads zero bytes x fits e =
    subst (λ (y : List A × List ℕ). Taken bytes (flat_map spell y.0) y.1 × ((length y.0 ≡ 0) × AllByRecursion Fits y.0)) (some_is ([], bytes) x e)
    (record { parts = refl; rest_fits = fits }, (refl, tt))
many_read {A} one spell Fits reads (suc count) bytes x fits e =
    let a = bind_some (one bytes) (λ first. many_at one count first.1 >>= λ others. Some (first.0 ∷ others.0, others.1)) x e in
    let b = bind_some (many_at one count a.0.1) (λ others. Some (a.0.0 ∷ others.0, others.1)) x a.2 in
    let first = reads bytes a.0 fits a.1 in
    let others = many_read one spell Fits reads count a.0.1 b.0 first.0.rest_fits b.1 in
    subst (λ (y : List A × List ℕ). Taken bytes (flat_map spell y.0) y.1 × ((length y.0 ≡ suc count) × AllByRecursion Fits y.0))
    (some_is (a.0.0 ∷ b.0.0, b.0.1) x b.2)
    (taken_then bytes (spell a.0.0) a.0.1 (flat_map spell b.0.0) b.0.1 first.0 others.0, (ap suc others.1.0, (first.1, others.1.1)))

-- ---- lists

keys_read : Reads keys_at keys_spelling IsKeys
unfolding keys_at
keys_read bytes x fits e =
    let a = bind_some (number_at w16 bytes) (λ count. (cond (leb count.0 128) (many_at key_at count.0 count.1) None) >>= λ keys. only_if
    (ascends key_before keys.0) keys) x e in
    let b = bind_some (cond (leb a.0.0 128) (many_at key_at a.0.0 a.0.1) None) (λ keys. only_if (ascends key_before keys.0) keys) x a.2 in
    let t = if_some (leb a.0.0 128) (many_at key_at a.0.0 a.0.1) b.0 b.1 in
    let g = only_some (ascends key_before b.0.0) b.0 x b.2 in
    let n = number_reads w16 (2 ^ 16) exact16 bytes a.0 fits a.1 in
    let many = many_read key_at key_spelling IsKey key_reads a.0.0 a.0.1 b.0 n.0.rest_fits t.1 in
    let both = taken_then bytes (to_be_bytes w16 a.0.0) a.0.1 (flat_map key_spelling b.0.0) b.0.1 n.0 many.0 in
    subst (λ (y : List (List ℕ) × List ℕ). Taken bytes (keys_spelling y.0) y.1 × IsKeys y.0) g.1 (
      subst (λ (k : ℕ). Taken bytes (to_be_bytes w16 k ++ flat_map key_spelling b.0.0) b.0.1) (sym many.1.0) both,
      record { few = omega (arith, many.1.0, leb-true a.0.0 128 t.0); in_order = g.0; each = many.1.1 },
    )

writes_read : Reads writes_at writes_spelling IsWrites
unfolding writes_at
writes_read bytes x fits e =
    let a = bind_some (number_at w16 bytes) (λ count. (cond (leb count.0 128) (many_at write_at count.0 count.1) None) >>= λ writes. only_if
    (ascends write_before writes.0) writes) x e in
    let b = bind_some (cond (leb a.0.0 128) (many_at write_at a.0.0 a.0.1) None) (λ writes. only_if (ascends write_before writes.0) writes) x a.2 in
    let t = if_some (leb a.0.0 128) (many_at write_at a.0.0 a.0.1) b.0 b.1 in
    let g = only_some (ascends write_before b.0.0) b.0 x b.2 in
    let n = number_reads w16 (2 ^ 16) exact16 bytes a.0 fits a.1 in
    let many = many_read write_at write_spelling IsWrite write_reads a.0.0 a.0.1 b.0 n.0.rest_fits t.1 in
    let both = taken_then bytes (to_be_bytes w16 a.0.0) a.0.1 (flat_map write_spelling b.0.0) b.0.1 n.0 many.0 in
    subst (λ (y : List Write × List ℕ). Taken bytes (writes_spelling y.0) y.1 × IsWrites y.0) g.1 (
      subst (λ (k : ℕ). Taken bytes (to_be_bytes w16 k ++ flat_map write_spelling b.0.0) b.0.1) (sym many.1.0) both,
      record { few = omega (arith, many.1.0, leb-true a.0.0 128 t.0); in_order = g.0; each = many.1.1 },
    )

-- ---- records

id_reads : Reads id_at id_spelling IsId
unfolding id_at
id_reads bytes x fits e =
    let a = bind_some (epoch_at bytes) (λ run. stamp_at run.1 >>= λ number. Some (record { run = run.0; number = number.0 }, number.1)) x e in
    let b = bind_some (stamp_at a.0.1) (λ number. Some (record { run = a.0.0; number = number.0 }, number.1)) x a.2 in
    let run = epoch_reads bytes a.0 fits a.1 in
    let number = stamp_reads a.0.1 b.0 run.0.rest_fits b.1 in
    let made : Id × List ℕ = (record { run = a.0.0; number = b.0.0 }, b.0.1) in
    subst (λ (y : Id × List ℕ). Taken bytes (id_spelling y.0) y.1 × IsId y.0) (some_is made x b.2)
    (taken_then bytes (to_be_bytes w64 a.0.0) a.0.1 (to_be_bytes w64 b.0.0) b.0.1 run.0 number.0, (run.1, number.1))

parts_read : Reads parts_at parts_spelling IsParts
unfolding parts_at parts_spelling
parts_read bytes x fits e =
    let a = bind_some (number_at w16 bytes) (λ n. only_if (leb 1 n.0) (shards_of_mask n.0, n.1)) x e in
    let g = only_some (leb 1 a.0.0) (shards_of_mask a.0.0, a.0.1) x a.2 in
    let n = number_reads w16 (2 ^ 16) exact16 bytes a.0 fits a.1 in
    let again : mask_of (shards_of_mask a.0.0) ≡ a.0.0 = mask_again a.0.0 n.1 in
    subst (λ (y : List ℕ × List ℕ). Taken bytes (to_be_bytes w16 (mask_of y.0)) y.1 × IsParts y.0) g.1 (
      subst (λ (k : ℕ). Taken bytes (to_be_bytes w16 k) a.0.1) (sym again) n.0,
      record {
        some = subst (λ (k : ℕ). 1 ≤ k) (sym again) (leb-true _ _ g.0);
        below = subst (λ (k : ℕ). k < 2 ^ 16) (sym again) n.1;
        shards = ap shards_of_mask again;
      },
    )

shard_reads : Reads shard_at shard_spelling IsShard
unfolding shard_at
shard_reads [] x fits e = absurd cc
shard_reads (shard ∷ bytes) x fits e =
    let g = only_some (ltb shard 16) (shard, bytes) x e in
    subst (λ (y : ℕ × List ℕ). Taken (shard ∷ bytes) (shard_spelling y.0) y.1 × IsShard y.0) g.1
    (record { parts = refl; rest_fits = bytes-behind shard bytes fits }, ltb-true _ _ g.0)

outcome_reads : Reads outcome_at outcome_spelling IsOutcome
unfolding outcome_at
outcome_reads [] x fits e = absurd cc
outcome_reads (zero ∷ bytes) x fits e =
    subst (λ (y : Option ℕ × List ℕ). Taken (0 ∷ bytes) (outcome_spelling y.0) y.1 × IsOutcome y.0) (some_is (None, bytes) x e)
    (record { parts = refl; rest_fits = bytes-behind 0 bytes fits }, tt)
outcome_reads (suc zero ∷ bytes) x fits e =
    let a = bind_some (stamp_at bytes) (λ at. Some (Some at.0, at.1)) x e in
    let at = stamp_reads bytes a.0 (bytes-behind 1 bytes fits) a.1 in
    subst (λ (y : Option ℕ × List ℕ). Taken (1 ∷ bytes) (outcome_spelling y.0) y.1 × IsOutcome y.0) (some_is (Some a.0.0, a.0.1) x a.2)
    (behind_byte 1 bytes (to_be_bytes w64 a.0.0) a.0.1 at.0, at.1)
outcome_reads (suc (suc other) ∷ bytes) x fits e = absurd cc

-- five fields, one behind the other
taken_five : (a p b q c r d s e t f : List ℕ) → Taken a p b → Taken b q c → Taken c r d → Taken d s e → Taken e t f → Taken a ((((p ++ q) ++ r) ++ s) ++ t) f
taken_five a p b q c r d s e t f one two three four five =
    taken_then a (((p ++ q) ++ r) ++ s) e t f (taken_then a ((p ++ q) ++ r) d s e (taken_then a (p ++ q) c r d (taken_then a p b q c one two) three) four) five

prepare_reads : Reads prepare_at prepare_spelling IsPrepare
unfolding prepare_at
prepare_reads bytes x fits e =
    let a = bind_some (id_at bytes) (λ txn. shard_at txn.1 >>= λ coordinator. stamp_at coordinator.1 >>= λ at. keys_at at.1 >>= λ reads. writes_at
    reads.1 >>= λ writes. Some (made txn.0 coordinator.0 at.0 reads.0 writes)) x e in
    let b = bind_some (shard_at a.0.1) (λ coordinator. stamp_at coordinator.1 >>= λ at. keys_at at.1 >>= λ reads. writes_at reads.1 >>= λ
    writes. Some (made a.0.0 coordinator.0 at.0 reads.0 writes)) x a.2 in
    let c = bind_some (stamp_at b.0.1) (λ at. keys_at at.1 >>= λ reads. writes_at reads.1 >>= λ writes. Some (made a.0.0 b.0.0 at.0 reads.0 writes)) x b.2 in
    let d = bind_some (keys_at c.0.1) (λ reads. writes_at reads.1 >>= λ writes. Some (made a.0.0 b.0.0 c.0.0 reads.0 writes)) x c.2 in
    let f = bind_some (writes_at d.0.1) (λ writes. Some (made a.0.0 b.0.0 c.0.0 d.0.0 writes)) x d.2 in
    let txn = id_reads bytes a.0 fits a.1 in
    let coordinator = shard_reads a.0.1 b.0 txn.0.rest_fits b.1 in
    let at = stamp_reads b.0.1 c.0 coordinator.0.rest_fits c.1 in
    let reads = keys_read c.0.1 d.0 at.0.rest_fits d.1 in
    let writes = writes_read d.0.1 f.0 reads.0.rest_fits f.1 in
    let all = taken_five bytes (id_spelling a.0.0) a.0.1 (shard_spelling b.0.0) b.0.1 (to_be_bytes w64 c.0.0) c.0.1 (keys_spelling d.0.0) d.0.1
    (writes_spelling f.0.0) f.0.1 txn.0 coordinator.0 at.0 reads.0 writes.0 in
    subst (λ (y : Prepared × List ℕ). Taken bytes (prepare_spelling y.0) y.1 × IsPrepare y.0) {x = made a.0.0 b.0.0 c.0.0 d.0.0 f.0}
    (some_is (made a.0.0 b.0.0 c.0.0 d.0.0 f.0) x f.2)
    (all, record { txn = txn.1; coordinator = coordinator.1; at = at.1; reads = reads.1; writes = writes.1 })
  where
    made : Id → ℕ → ℕ → List Bytes → List Write × List ℕ → Prepared × List ℕ
    made txn coordinator at reads writes = (record { txn = txn; coordinator = coordinator; at = at; reads = reads; writes = writes.0 }, writes.1)

commit_reads : Reads commit_at commit_spelling IsCommit
unfolding commit_at
commit_reads bytes x fits e =
    let a = bind_some (id_at bytes) (λ txn. stamp_at txn.1 >>= λ at. parts_at at.1 >>= λ parts. keys_at parts.1 >>= λ reads. writes_at reads.1 >>= λ
    writes. Some (made txn.0 at.0 parts.0 reads.0 writes)) x e in
    let b = bind_some (stamp_at a.0.1) (λ at. parts_at at.1 >>= λ parts. keys_at parts.1 >>= λ reads. writes_at reads.1 >>= λ writes. Some
    (made a.0.0 at.0 parts.0 reads.0 writes)) x a.2 in
    let c = bind_some (parts_at b.0.1) (λ parts. keys_at parts.1 >>= λ reads. writes_at reads.1 >>= λ writes. Some
    (made a.0.0 b.0.0 parts.0 reads.0 writes)) x b.2 in
    let d = bind_some (keys_at c.0.1) (λ reads. writes_at reads.1 >>= λ writes. Some (made a.0.0 b.0.0 c.0.0 reads.0 writes)) x c.2 in
    let f = bind_some (writes_at d.0.1) (λ writes. Some (made a.0.0 b.0.0 c.0.0 d.0.0 writes)) x d.2 in
    let txn = id_reads bytes a.0 fits a.1 in
    let at = stamp_reads a.0.1 b.0 txn.0.rest_fits b.1 in
    let parts = parts_read b.0.1 c.0 at.0.rest_fits c.1 in
    let reads = keys_read c.0.1 d.0 parts.0.rest_fits d.1 in
    let writes = writes_read d.0.1 f.0 reads.0.rest_fits f.1 in
    let all = taken_five bytes (id_spelling a.0.0) a.0.1 (to_be_bytes w64 b.0.0) b.0.1 (parts_spelling c.0.0) c.0.1 (keys_spelling d.0.0) d.0.1
    (writes_spelling f.0.0) f.0.1 txn.0 at.0 parts.0 reads.0 writes.0 in
    subst (λ (y : Committed × List ℕ). Taken bytes (commit_spelling y.0) y.1 × IsCommit y.0) {x = made a.0.0 b.0.0 c.0.0 d.0.0 f.0}
    (some_is (made a.0.0 b.0.0 c.0.0 d.0.0 f.0) x f.2)
    (all, record { txn = txn.1; at = at.1; parts = parts.1; reads = reads.1; writes = writes.1 })
  where
    made : Id → ℕ → List ℕ → List Bytes → List Write × List ℕ → Committed × List ℕ
    made txn at parts reads writes = (record { txn = txn; at = at; parts = parts; reads = reads; writes = writes.0 }, writes.1)

abbrev ended_spelling : Id × Option ℕ → List ℕ
ended_spelling e = id_spelling e.0 ++ outcome_spelling e.1

ended_reads : Reads ended_at ended_spelling (λ e. IsId e.0 × IsOutcome e.1)
unfolding ended_at
ended_reads bytes x fits e =
    let a = bind_some (id_at bytes) (λ txn. outcome_at txn.1 >>= λ outcome. Some ((txn.0, outcome.0), outcome.1)) x e in
    let b = bind_some (outcome_at a.0.1) (λ outcome. Some ((a.0.0, outcome.0), outcome.1)) x a.2 in
    let txn = id_reads bytes a.0 fits a.1 in
    let outcome = outcome_reads a.0.1 b.0 txn.0.rest_fits b.1 in
    subst (λ (y : (Id × Option ℕ) × List ℕ). Taken bytes (ended_spelling y.0) y.1 × (IsId y.0.0 × IsOutcome y.0.1)) (some_is ((a.0.0, b.0.0), b.0.1) x b.2)
    (taken_then bytes (id_spelling a.0.0) a.0.1 (outcome_spelling b.0.0) b.0.1 txn.0 outcome.0, (txn.1, outcome.1))

-- three fields, one behind the other
taken_three : (a p b q c r d : List ℕ) → Taken a p b → Taken b q c → Taken c r d → Taken a ((p ++ q) ++ r) d
taken_three a p b q c r d one two three = taken_then a (p ++ q) c r d (taken_then a p b q c one two) three

base_of : ℕ × ℕ × ℕ → List ℕ
base_of b = base_spelling b.0 b.1 b.2

base_reads : Reads base_at base_of (λ b. IsBase b.0 b.1 b.2)
unfolding base_at base_of
base_reads bytes x fits e =
    let a = bind_some (epoch_at bytes) (λ epoch. stamp_at epoch.1 >>= λ floor. stamp_at floor.1 >>= λ horizon. Some ((epoch.0, floor.0, horizon.0), horizon.1))
    x e in
    let b = bind_some (stamp_at a.0.1) (λ floor. stamp_at floor.1 >>= λ horizon. Some ((a.0.0, floor.0, horizon.0), horizon.1)) x a.2 in
    let c = bind_some (stamp_at b.0.1) (λ horizon. Some ((a.0.0, b.0.0, horizon.0), horizon.1)) x b.2 in
    let epoch = epoch_reads bytes a.0 fits a.1 in
    let floor = stamp_reads a.0.1 b.0 epoch.0.rest_fits b.1 in
    let horizon = stamp_reads b.0.1 c.0 floor.0.rest_fits c.1 in
    subst (λ (y : (ℕ × ℕ × ℕ) × List ℕ). Taken bytes (base_spelling y.0.0 y.0.1 y.0.2) y.1 × IsBase y.0.0 y.0.1 y.0.2)
    (some_is ((a.0.0, b.0.0, c.0.0), c.0.1) x c.2) (
      taken_three bytes (to_be_bytes w64 a.0.0) a.0.1 (to_be_bytes w64 b.0.0) b.0.1 (to_be_bytes w64 c.0.0) c.0.1 epoch.0 floor.0 horizon.0,
      record { epoch = epoch.1; floor = floor.1; horizon = horizon.1 },
    )

version_reads : Reads version_at version_spelling IsVersion
unfolding version_at
version_reads bytes x fits e =
    let a = bind_some (key_at bytes) (λ key. stamp_at key.1 >>= λ at. value_at at.1 >>= λ value. Some (made key.0 at.0 value)) x e in
    let b = bind_some (stamp_at a.0.1) (λ at. value_at at.1 >>= λ value. Some (made a.0.0 at.0 value)) x a.2 in
    let c = bind_some (value_at b.0.1) (λ value. Some (made a.0.0 b.0.0 value)) x b.2 in
    let key = key_reads bytes a.0 fits a.1 in
    let at = stamp_reads a.0.1 b.0 key.0.rest_fits b.1 in
    let value = value_reads b.0.1 c.0 at.0.rest_fits c.1 in
    subst (λ (y : Install × List ℕ). Taken bytes (version_spelling y.0) y.1 × IsVersion y.0) {x = made a.0.0 b.0.0 c.0}
    (some_is (made a.0.0 b.0.0 c.0) x c.2) (
      taken_three bytes (key_spelling a.0.0) a.0.1 (to_be_bytes w64 b.0.0) b.0.1 (value_spelling c.0.0) c.0.1 key.0 at.0 value.0,
      record { key = key.1; at = at.1; value = value.1 },
    )
  where
    made : Bytes → ℕ → Option Bytes × List ℕ → Install × List ℕ
    made key at value = (record { key = key; at = at; value = value.0 }, value.1)

settled_of : Id × ℕ × List ℕ → List ℕ
settled_of s = settled_spelling s.0 s.1 s.2

settled_reads : Reads settled_at settled_of (λ s. IsSettled s.0 s.1 s.2)
unfolding settled_at settled_of
settled_reads bytes x fits e =
    let a = bind_some (id_at bytes) (λ txn. stamp_at txn.1 >>= λ at. parts_at at.1 >>= λ parts. Some ((txn.0, at.0, parts.0), parts.1)) x e in
    let b = bind_some (stamp_at a.0.1) (λ at. parts_at at.1 >>= λ parts. Some ((a.0.0, at.0, parts.0), parts.1)) x a.2 in
    let c = bind_some (parts_at b.0.1) (λ parts. Some ((a.0.0, b.0.0, parts.0), parts.1)) x b.2 in
    let txn = id_reads bytes a.0 fits a.1 in
    let at = stamp_reads a.0.1 b.0 txn.0.rest_fits b.1 in
    let parts = parts_read b.0.1 c.0 at.0.rest_fits c.1 in
    subst (λ (y : (Id × ℕ × List ℕ) × List ℕ). Taken bytes (settled_spelling y.0.0 y.0.1 y.0.2) y.1 × IsSettled y.0.0 y.0.1 y.0.2)
    (some_is ((a.0.0, b.0.0, c.0.0), c.0.1) x c.2) (
      taken_three bytes (id_spelling a.0.0) a.0.1 (to_be_bytes w64 b.0.0) b.0.1 (parts_spelling c.0.0) c.0.1 txn.0 at.0 parts.0,
      record { txn = txn.1; at = at.1; parts = parts.1 },
    )

closed_of : Id × ℕ × Option ℕ → List ℕ
closed_of c = closed_spelling c.0 c.1 c.2

closed_reads : Reads closed_at closed_of (λ c. IsClosed c.0 c.1 c.2)
unfolding closed_at closed_of
closed_reads bytes x fits e =
    let a = bind_some (id_at bytes) (λ txn. shard_at txn.1 >>= λ coordinator. outcome_at coordinator.1 >>= λ outcome. Some
    ((txn.0, coordinator.0, outcome.0), outcome.1)) x e in
    let b = bind_some (shard_at a.0.1) (λ coordinator. outcome_at coordinator.1 >>= λ outcome. Some ((a.0.0, coordinator.0, outcome.0), outcome.1)) x a.2 in
    let c = bind_some (outcome_at b.0.1) (λ outcome. Some ((a.0.0, b.0.0, outcome.0), outcome.1)) x b.2 in
    let txn = id_reads bytes a.0 fits a.1 in
    let coordinator = shard_reads a.0.1 b.0 txn.0.rest_fits b.1 in
    let outcome = outcome_reads b.0.1 c.0 coordinator.0.rest_fits c.1 in
    subst (λ (y : (Id × ℕ × Option ℕ) × List ℕ). Taken bytes (closed_spelling y.0.0 y.0.1 y.0.2) y.1 × IsClosed y.0.0 y.0.1 y.0.2)
    (some_is ((a.0.0, b.0.0, c.0.0), c.0.1) x c.2) (
      taken_three bytes (id_spelling a.0.0) a.0.1 (shard_spelling b.0.0) b.0.1 (outcome_spelling c.0.0) c.0.1 txn.0 coordinator.0 outcome.0,
      record { txn = txn.1; coordinator = coordinator.1; outcome = outcome.1 },
    )

-- a kind, and what stands behind its byte
of_kind : {A : Type 0} (kind byte : ℕ) (one : List ℕ → Option (A × List ℕ)) (spell : A → List ℕ) (Fits : A → Type 0) (make : A → Record)
    (bytes : List ℕ) (x : Record × List ℕ) → IsBytes bytes → Reads one spell Fits → byte ≡ kind
    → ((a : A) → spelling (make a) ≡ kind ∷ spell a) → ((a : A) → Fits a → IsRecord (make a)) → (one bytes >>= λ y. Some (make y.0, y.1)) ≡ Some x →
    Taken (byte ∷ bytes) (spelling x.0) x.1 × IsRecord x.0
of_kind {A} kind byte one spell Fits make bytes x fits reads is spelled limits e =
    let a = bind_some (one bytes) (λ y. Some (make y.0, y.1)) x e in
    let read = reads bytes a.0 fits a.1 in
    let front = behind_byte byte bytes (spell a.0.0) a.0.1 read.0 in
    let text : byte ∷ spell a.0.0 ≡ spelling (make a.0.0) = ap (λ (n : ℕ). n ∷ spell a.0.0) is ∙ sym (spelled a.0.0) in
    subst (λ (y : Record × List ℕ). Taken (byte ∷ bytes) (spelling y.0) y.1 × IsRecord y.0) (some_is (make a.0.0, a.0.1) x a.2)
    (subst (λ (t : List ℕ). Taken (byte ∷ bytes) t a.0.1) text front, limits a.0.0 read.1)

-- the branch that was taken
chosen : {A : Type 0} (test : Bool) (yes' no' z : A) → cond test yes' no' ≡ z → ((test ≡ true) × (yes' ≡ z)) ⊎ ((test ≡ false) × (no' ≡ z))
chosen true yes' no' z e = inl (refl, e)
chosen false yes' no' z e = inr (refl, e)

-- the kinds of a head
head_at : ℕ → List ℕ → Option (Record × List ℕ)
head_at kind bytes =
    cond (eqb kind 8) (base_at bytes >>= λ b. Some (records.Base b.0.0 b.0.1 b.0.2, b.1))
    (cond (eqb kind 9) (version_at bytes >>= λ i. Some (records.Version i.0, i.1))
    (cond (eqb kind 10) (settled_at bytes >>= λ s. Some (records.Settled s.0.0 s.0.1 s.0.2, s.1))
    (cond (eqb kind 11) (closed_at bytes >>= λ c. Some (records.Closed c.0.0 c.0.1 c.0.2, c.1))
    (cond (eqb kind 12) (id_at bytes >>= λ below. Some (records.Retired below.0, below.1)) None))))

head_reads : (kind : ℕ) (bytes : List ℕ) (x : Record × List ℕ) → IsBytes bytes → head_at kind bytes ≡ Some x →
    Taken (kind ∷ bytes) (spelling x.0) x.1 × IsRecord x.0
unfolding head_at base_of settled_of closed_of
head_reads kind bytes x fits e =
    let closes : Option (Record × List ℕ) = closed_at bytes >>= λ c. Some (records.Closed c.0.0 c.0.1 c.0.2, c.1) in
    let retires : Option (Record × List ℕ) = id_at bytes >>= λ below. Some (records.Retired below.0, below.1) in
    let fifth : Option (Record × List ℕ) = cond (eqb kind 12) retires None in
    let fourth : Option (Record × List ℕ) = cond (eqb kind 11) closes fifth in
    let settles : Option (Record × List ℕ) = settled_at bytes >>= λ s. Some (records.Settled s.0.0 s.0.1 s.0.2, s.1) in
    let third : Option (Record × List ℕ) = cond (eqb kind 10) settles fourth in
    let versions : Option (Record × List ℕ) = version_at bytes >>= λ i. Some (records.Version i.0, i.1) in
    let second : Option (Record × List ℕ) = cond (eqb kind 9) versions third in
    elim (chosen (eqb kind 8) (base_at bytes >>= λ b. Some (records.Base b.0.0 b.0.1 b.0.2, b.1)) second (Some x) e) [
      | inl base ↦ of_kind 8 kind base_at base_of (λ b. IsBase b.0 b.1 b.2) (λ b. records.Base b.0 b.1 b.2) bytes x fits base_reads
          (eqb-true kind 8 base.0) (λ a. refl) (λ a h. h) base.1
      | inr later ↦ elim (chosen (eqb kind 9) versions third (Some x) later.1) [
        | inl version ↦ of_kind 9 kind version_at version_spelling IsVersion (λ i. records.Version i) bytes x fits version_reads
            (eqb-true kind 9 version.0) (λ a. refl) (λ a h. h) version.1
        | inr past2 ↦ elim (chosen (eqb kind 10) settles fourth (Some x) past2.1) [
          | inl settled ↦ of_kind 10 kind settled_at settled_of (λ s. IsSettled s.0 s.1 s.2) (λ s. records.Settled s.0 s.1 s.2) bytes x fits
              settled_reads (eqb-true kind 10 settled.0) (λ a. refl) (λ a h. h) settled.1
          | inr past3 ↦ elim (chosen (eqb kind 11) closes fifth (Some x) past3.1) [
            | inl closed ↦ of_kind 11 kind closed_at closed_of (λ c. IsClosed c.0 c.1 c.2) (λ c. records.Closed c.0 c.1 c.2) bytes x fits
                closed_reads (eqb-true kind 11 closed.0) (λ a. refl) (λ a h. h) closed.1
            | inr past4 ↦
                let retired = if_some (eqb kind 12) retires x past4.1 in
                of_kind 12 kind id_at id_spelling IsId (λ below. records.Retired below) bytes x fits id_reads (eqb-true kind 12 retired.0)
                (λ a. refl) (λ a h. h) retired.1
          ]
        ]
      ]
    ]

pub record_reads : Reads record_at spelling IsRecord
unfolding record_at head_at
record_reads [] x fits e = absurd cc
record_reads (kind ∷ bytes) x fits e =
    let rest_fits = bytes-behind kind bytes fits in
    let horizons : Option (Record × List ℕ) = stamp_at bytes >>= λ at. Some (records.Horizon at.0, at.1) in
    let seventh : Option (Record × List ℕ) = cond (eqb kind 7) horizons (head_at kind bytes) in
    let ends : Option (Record × List ℕ) = ended_at bytes >>= λ y. Some (records.Outcome y.0.0 y.0.1, y.1) in
    let sixth : Option (Record × List ℕ) = cond (eqb kind 6) ends seventh in
    let aborts : Option (Record × List ℕ) = id_at bytes >>= λ txn. Some (records.Abort txn.0, txn.1) in
    let fifth : Option (Record × List ℕ) = cond (eqb kind 5) aborts sixth in
    let commits : Option (Record × List ℕ) = commit_at bytes >>= λ c. Some (records.Commit c.0, c.1) in
    let fourth : Option (Record × List ℕ) = cond (eqb kind 4) commits fifth in
    let prepares : Option (Record × List ℕ) = prepare_at bytes >>= λ p. Some (records.Prepare p.0, p.1) in
    let third : Option (Record × List ℕ) = cond (eqb kind 3) prepares fourth in
    let ceilings : Option (Record × List ℕ) = stamp_at bytes >>= λ at. Some (records.Ceiling at.0, at.1) in
    let second : Option (Record × List ℕ) = cond (eqb kind 2) ceilings third in
    elim (chosen (eqb kind 1) (epoch_at bytes >>= λ epoch. Some (records.Opened epoch.0, epoch.1)) second (Some x) e) [
      | inl opened ↦ of_kind 1 kind epoch_at (to_be_bytes w64) IsEpoch (λ n. records.Opened n) bytes x rest_fits epoch_reads
          (eqb-true kind 1 opened.0) (λ a. refl) (λ a h. h) opened.1
      | inr later ↦ elim (chosen (eqb kind 2) ceilings third (Some x) later.1) [
        | inl ceiling ↦ of_kind 2 kind stamp_at (to_be_bytes w64) IsStamp (λ n. records.Ceiling n) bytes x rest_fits stamp_reads
            (eqb-true kind 2 ceiling.0) (λ a. refl) (λ a h. h) ceiling.1
        | inr past2 ↦ elim (chosen (eqb kind 3) prepares fourth (Some x) past2.1) [
          | inl prepare ↦ of_kind 3 kind prepare_at prepare_spelling IsPrepare (λ p. records.Prepare p) bytes x rest_fits prepare_reads
              (eqb-true kind 3 prepare.0) (λ a. refl) (λ a h. h) prepare.1
          | inr past3 ↦ elim (chosen (eqb kind 4) commits fifth (Some x) past3.1) [
            | inl commit ↦ of_kind 4 kind commit_at commit_spelling IsCommit (λ c. records.Commit c) bytes x rest_fits commit_reads
                (eqb-true kind 4 commit.0) (λ a. refl) (λ a h. h) commit.1
            | inr past4 ↦ elim (chosen (eqb kind 5) aborts sixth (Some x) past4.1) [
              | inl abort ↦ of_kind 5 kind id_at id_spelling IsId (λ txn. records.Abort txn) bytes x rest_fits id_reads (eqb-true kind 5 abort.0)
                  (λ a. refl) (λ a h. h) abort.1
              | inr past5 ↦ elim (chosen (eqb kind 6) ends seventh (Some x) past5.1) [
                | inl outcome ↦ of_kind 6 kind ended_at ended_spelling (λ y. IsId y.0 × IsOutcome y.1) (λ y. records.Outcome y.0 y.1) bytes x rest_fits
                    ended_reads (eqb-true kind 6 outcome.0) (λ a. refl) (λ a h. h) outcome.1
                | inr past6 ↦ elim (chosen (eqb kind 7) horizons (head_at kind bytes) (Some x) past6.1) [
                  | inl horizon ↦ of_kind 7 kind stamp_at (to_be_bytes w64) IsStamp (λ n. records.Horizon n) bytes x rest_fits stamp_reads
                      (eqb-true kind 7 horizon.0) (λ a. refl) (λ a h. h) horizon.1
                  | inr past7 ↦ head_reads kind bytes x rest_fits past7.1
                ]
              ]
            ]
          ]
        ]
      ]
    ]

-- what is read as a record is its spelling
pub record_is : (bytes : List ℕ) (r : Record) → IsBytes bytes → read_record bytes ≡ Some r → Spells bytes r
unfolding read_record
record_is bytes r fits e =
    let a = bind_some (record_at bytes) (λ x. only_if (eqb (length x.1) 0) x.0) r e in
    let g = only_some (eqb (length a.0.1) 0) a.0.0 r a.2 in
    let read = record_reads bytes a.0 fits a.1 in
    let none : a.0.1 ≡ [] = nil_from_length a.0.1 (eqb-true _ _ g.0) in
    subst (λ (s : Record). Spells bytes s) g.1 (read.1, read.0.parts ∙ ap (λ (l : List ℕ). spelling a.0.0 ++ l) none ∙ append-nil (spelling a.0.0))
