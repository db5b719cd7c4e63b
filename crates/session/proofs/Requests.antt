-- The keys and writes of a message ascend and are few.
use Rattle.std.specs.List.{list_any}
use Rattle.std.proofs.Common.{◌≡◌, ◌⊎◌, ◌≤◌, ◌<◌, Bool, true, false, cond, List, [], ◌∷◌, length, map, Some, refl, sym, ap, ◌∙◌, subst, ⊎_elim, arith}
use Rattle.std.specs.Prelude.{IsFalse, filter}
use Rattle.std.proofs.lemmas.Bool.{and_parts, or_parts, or_from}
use Rattle.units.specs.Lists.{head, insert, sorted, ascends}
use Rattle.units.specs.Keys.{Bytes, same_key, key_before, has_key, write_before}
use Rattle.units.specs.declared.writes.Write.{Write}
use Rattle.session.specs.declared.answered.Answered.{Answered}
use Rattle.session.specs.Shown.{distinct, taken_keys, IsWithinLimits}
use Rattle.session.proofs.Kept.{not_false, ascends_insert, ascends_keep, length_insert, length_keep, keyed_self}

-- the keys of some answers, in order
abbrev pub keys_of : (Answered → Bool) → List Answered → List Bytes
keys_of q taken = sorted key_before (map (λ a. a.key) (filter q taken))

none_inserted : (test : Bytes → Bool) (k : Bytes) (ks : List Bytes) → test k ≡ false → list_any test ks ≡ false → list_any test (insert key_before k ks) ≡ false
none_inserted test k [] e h = or_from _ _ e refl
none_inserted test k (j ∷ js) e h = by_test (key_before j k) (none_inserted test k js e ((or_parts _ _ h).1))
  where
    by_test : (b : Bool) → list_any test (insert key_before k js) ≡ false → list_any test (cond b (j ∷ insert key_before k js) (k ∷ j ∷ js)) ≡ false
    by_test true rest = or_from _ _ ((or_parts _ _ h).0) rest
    by_test false rest = or_from _ _ e h

none_kept : (q : Answered → Bool) (taken : List Answered) (k : Bytes) → has_key (taken_keys taken) k ≡ false → has_key (keys_of q taken) k ≡ false
none_kept q [] k h = refl
none_kept q (a ∷ rest) k h = by_test (q a) (none_kept q rest k ((or_parts _ _ h).1))
  where
    by_test : (b : Bool) → has_key (keys_of q rest) k ≡ false
        → has_key (sorted key_before (map (λ (x : Answered). x.key) (cond b (a ∷ filter q rest) (filter q rest)))) k ≡ false
    by_test true e = none_inserted (same_key k) a.key (keys_of q rest) ((or_parts _ _ h).0) e
    by_test false e = e

-- they ascend
pub keys_ascend : (q : Answered → Bool) (taken : List Answered) → distinct (taken_keys taken) ≡ true → ascends key_before (keys_of q taken) ≡ true
keys_ascend q [] h = refl
keys_ascend q (a ∷ rest) h = by_test (q a) (keys_ascend q rest ((and_parts _ _ h).1))
  where
    by_test : (b : Bool) → ascends key_before (keys_of q rest) ≡ true
        → ascends key_before (sorted key_before (map (λ (x : Answered). x.key) (cond b (a ∷ filter q rest) (filter q rest)))) ≡ true
    by_test true e =
        ascends_insert (λ (j : Bytes). j) a.key (keys_of q rest)
        (keyed_self (keys_of q rest) a.key ∙ none_kept q rest a.key (not_false _ ((and_parts _ _ h).0))) e
    by_test false e = e

sorted_keys : (taken : List Answered) → length (sorted key_before (map (λ (a : Answered). a.key) taken)) ≡ length taken
sorted_keys [] = refl
sorted_keys (a ∷ rest) =
    length_insert key_before a.key (sorted key_before (map (λ (x : Answered). x.key) rest)) ∙ omega (arith, sorted_keys rest)

-- a list that is short and ascends is taken
not_refused : {A : Type 0} (less : A → A → Bool) (xs : List A) → length xs ≤ 128 → ascends less xs ≡ true → (128 < length xs) ⊎ IsFalse (ascends less xs) → ⊥
not_refused less xs few up =
    ⊎_elim (λ (long : 128 < length xs). omega (arith, few, long)) (λ (down : IsFalse (ascends less xs)). cc)

pub keys_taken : (q : Answered → Bool) (taken : List Answered) (ws : List Write) (ks : List Bytes) → IsWithinLimits taken [] ws → ks ≡ keys_of q taken
    → (128 < length ks) ⊎ IsFalse (ascends key_before ks) → ⊥
keys_taken q taken ws ks is same =
    not_refused key_before ks
    (subst (λ (l : List Bytes). length l ≤ 128) (sym same) (omega (arith, sorted_keys (filter q taken), length_keep q taken, is.few_keys)))
    (subst (λ (l : List Bytes). ascends key_before l ≡ true) (sym same) (keys_ascend q taken is.once))

pub writes_taken : (q : Write → Bool) (taken : List Answered) (ws part : List Write) → IsWithinLimits taken [] ws → part ≡ filter q ws
    → (128 < length part) ⊎ IsFalse (ascends write_before part) → ⊥
writes_taken q taken ws part is same =
    not_refused write_before part
    (subst (λ (l : List Write). length l ≤ 128) (sym same) (omega (arith, length_keep q ws, is.few_writes)))
    (subst (λ (l : List Write). ascends write_before l ≡ true) (sym same) (ascends_keep (λ (w : Write). w.key) q ws is.ascending))

-- where an answer was kept there is a key
pub some_key : (q : Answered → Bool) (taken : List Answered) (a : Answered) (ks : List Bytes) → head (filter q taken) ≡ Some a →
    ks ≡ keys_of q taken → ks ≡ [] → ⊥
some_key q taken a ks there same none = by_kept (filter q taken) there (sym same ∙ none)
  where
    by_kept : (l : List Answered) → head l ≡ Some a → sorted key_before (map (λ (x : Answered). x.key) l) ≡ [] → ⊥
    by_kept [] e f = cc
    by_kept (b ∷ bs) e f =
        let n : length (sorted key_before (map (λ (x : Answered). x.key) (b ∷ bs))) ≡ 0 = ap length f in
        omega (arith, n, sorted_keys (b ∷ bs))
