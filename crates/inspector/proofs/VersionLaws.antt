-- The values of the serial run are those of its versions.
use Rattle.std.specs.List.{list_all}
use Rattle.std.specs.List.Sorted.{IsPartitionedBy, IsStableBy, ties}
use Rattle.std.specs.Cmp.{IsStrictWeakOrder}
use Rattle.std.proofs.Common.{◌≡◌, ◌∙◌, ℕ, suc, ◌+◌, ◌-◌, ◌<◌, ◌≤◌, Bool, true, false, not, ◌&&◌, cond, List, [], ◌∷◌, ◌++◌, Option, None, drop}
use Rattle.std.proofs.Common.{filter, get_or, length, nat_lt, take, refl, sym, ap, subst, arith}
use Rattle.std.proofs.lemmas.Bool.{and_parts, and_from, false≢true}
use Rattle.std.proofs.lemmas.Bool.Decides.{nat_tests}
use Rattle.std.proofs.lemmas.List.{take_rest}
use Rattle.units.specs.Fronts.{front}
use Rattle.units.specs.Keys.{Bytes, key_before, same_key}
use Rattle.units.specs.declared.writes.Write.{Write}
use Rattle.units.proofs.KeyLaws.{key_before-irreflexive, key_before-total, key_before-trans, same_key-is, same_key-not_before, same_key_comm}
use Rattle.record.specs.History.{Txn}
use Rattle.inspector.specs.Ascending.{AscendsBy}
use Rattle.inspector.specs.Versions.{PlacedWrite, AscendsByKey, AscendsByPlace, before_place, has_earlier_key, has_earlier_place, last_value, placed_for}
use Rattle.inspector.specs.Versions.{placed_at, placed_from, shown, written}
use Rattle.inspector.proofs.Sorting.{ascends_drop, before_partitioned, not_after_partitioned, ties_run}

-- ---- the order of keys

key_one_way : (a b : Bytes) → key_before a b ≡ true → key_before b a ≡ false
key_one_way a b h = by_test (key_before b a) refl
  where
    by_test : (c : Bool) → key_before b a ≡ c → key_before b a ≡ false
    by_test false e = e
    by_test true e = absurd (false≢true (sym (key_before-irreflexive a) ∙ key_before-trans a b a h e))

key_chain : (a b c : Bytes) → key_before a b ≡ false → key_before b c ≡ false → key_before a c ≡ false
key_chain a b c h k = by_test (key_before a c) refl
  where
    by_same : (s : Bool) → same_key b c ≡ s → key_before a c ≡ true → key_before a c ≡ false
    by_same true same e = ap (key_before a) (sym (same_key-is b c same)) ∙ h
    by_same false same e =
        let back : key_before c b ≡ true = key_before-total b c same k in
        absurd (false≢true (sym h ∙ key_before-trans a c b e back))

    by_test : (d : Bool) → key_before a c ≡ d → key_before a c ≡ false
    by_test false e = e
    by_test true e = by_same (same_key b c) refl e

pub key_order : IsStrictWeakOrder has_earlier_key
key_order = record { one_way = λ v w. key_one_way v.write.key w.write.key; chain = λ u v w. key_chain u.write.key v.write.key w.write.key }

tie_is_same : (a b : Bytes) → (not (key_before a b) && not (key_before b a)) ≡ same_key a b
tie_is_same a b = by_same (same_key a b) refl
  where
    by_tests : (s c d : Bool) → (not c && not d) ≡ (not c && not d)
    by_tests s c d = refl

    differ : (c : Bool) → key_before a b ≡ c → same_key a b ≡ false → (not c && not (key_before b a)) ≡ false
    differ true e same = refl
    differ false e same = ap not (key_before-total a b same e)

    by_same : (s : Bool) → same_key a b ≡ s → (not (key_before a b) && not (key_before b a)) ≡ same_key a b
    by_same true same =
        (λ i. not (same_key-not_before a b same i) && not (same_key-not_before b a (same_key_comm b a ∙ same) i)) ∙ sym same
    by_same false same = differ (key_before a b) refl same ∙ sym same

-- a version of a key
abbrev pub sample : Bytes → ℕ → PlacedWrite
sample k n = record { place = n; write = record { key = k; value = None } }

pub stable_of_key : (vs ws : List PlacedWrite) → IsStableBy has_earlier_key vs ws → (k : Bytes) → placed_for k ws ≡ placed_for k vs
stable_of_key vs ws stable k = sym (of_key_is ws) ∙ stable (sample k 0) ∙ of_key_is vs
  where
    of_key_is : (us : List PlacedWrite) → filter (ties has_earlier_key (sample k 0)) us ≡ placed_for k us
    of_key_is us = ap (λ (test : PlacedWrite → Bool). filter test us) (λ i v. tie_is_same k v.write.key i)

pub run_of_key : (k : Bytes) (vs : List PlacedWrite) → AscendsByKey vs → (p q : ℕ) → p ≡ front (λ v. key_before v.write.key k) vs
    → q ≡ front (λ v. not (key_before k v.write.key)) (take (length vs - p) (drop p vs)) → take q (take (length vs - p) (drop p vs)) ≡ placed_for k vs
run_of_key k vs up p q first count =
    ap (λ n. take n (take (length vs - p) (drop p vs))) count
    ∙ ap (λ (ws : List PlacedWrite). take (front (λ v. not (key_before k v.write.key)) ws) ws) (take_rest vs p)
    ∙ ap (λ n. take (front (λ v. not (key_before k v.write.key)) (drop n vs)) (drop n vs)) first
    ∙ ties_run has_earlier_key key_order (sample k 0) vs up
    ∙ ap (λ (test : PlacedWrite → Bool). filter test vs) (λ i v. tie_is_same k v.write.key i)

pub keys_before : (k : Bytes) (vs : List PlacedWrite) → AscendsByKey vs → IsPartitionedBy (λ v. key_before v.write.key k) vs
keys_before k vs up = before_partitioned has_earlier_key key_order (sample k 0) vs up

pub keys_not_after : (k : Bytes) (vs : List PlacedWrite) (p : ℕ) → AscendsByKey vs
    → IsPartitionedBy (λ v. not (key_before k v.write.key)) (take (length vs - p) (drop p vs))
keys_not_after k vs p up =
    not_after_partitioned has_earlier_key key_order (sample k 0) _ (subst AscendsByKey (sym (take_rest vs p)) (ascends_drop has_earlier_key p vs up))

-- ---- the order of places

place_order : IsStrictWeakOrder has_earlier_place
place_order = record { one_way = λ v w. one_way v.place w.place; chain = λ u v w. chain u.place v.place w.place }
  where
    one_way : (a b : ℕ) → nat_lt a b ≡ true → nat_lt b a ≡ false
    one_way a b h = grind (arith, nat_tests)

    chain : (a b c : ℕ) → nat_lt a b ≡ false → nat_lt b c ≡ false → nat_lt a c ≡ false
    chain a b c h k = grind (arith, nat_tests)

pub places_before : (n : ℕ) (vs : List PlacedWrite) → AscendsByPlace vs → IsPartitionedBy (λ v. nat_lt v.place n) vs
places_before n vs up = before_partitioned has_earlier_place place_order (sample [] n) vs up

none_before : (n : ℕ) (v : PlacedWrite) (vs : List PlacedWrite) → nat_lt v.place n ≡ false → list_all (λ w. not (has_earlier_place w v)) vs ≡ true
    → before_place n vs ≡ []
none_before n v [] here all = refl
none_before n v (w ∷ vs) here all =
    let later : nat_lt w.place n ≡ false = place_order.chain w v (sample [] n) (is_false _ (and_parts _ _ all).0) here in
    ap (λ b. cond b (w ∷ before_place n vs) (before_place n vs)) later ∙ none_before n v vs here (and_parts _ _ all).1
  where
    is_false : (b : Bool) → not b ≡ true → b ≡ false
    is_false true e = cc
    is_false false e = refl

pub first_places : (n : ℕ) (vs : List PlacedWrite) → AscendsByPlace vs → take (front (λ v. nat_lt v.place n) vs) vs ≡ before_place n vs
first_places n [] up = refl
first_places n (v ∷ vs) up = by_test (nat_lt v.place n) refl (first_places n vs up.1)
  where
    by_test : (b : Bool) → nat_lt v.place n ≡ b → take (front (λ w. nat_lt w.place n) vs) vs ≡ before_place n vs
        → take (cond b (suc (front (λ w. nat_lt w.place n) vs)) 0) (v ∷ vs) ≡ cond b (v ∷ before_place n vs) (before_place n vs)
    by_test true is rest = ap (λ l. v ∷ l) rest
    by_test false is rest = sym (none_before n v vs is up.0)

not_earlier : (n m : ℕ) → n ≤ m → not (nat_lt m n) ≡ true
not_earlier n m le = grind (arith, nat_tests, le)

all_from_at : (n m : ℕ) (ws : List Write) (vs : List PlacedWrite) → n ≤ m → list_all (λ v. not (nat_lt v.place n)) vs ≡ true
    → list_all (λ v. not (nat_lt v.place n)) (placed_at m ws ++ vs) ≡ true
all_from_at n m [] vs le all = all
all_from_at n m (w ∷ ws) vs le all = and_from _ _ (not_earlier n m le) (all_from_at n m ws vs le all)

all_from : (n m : ℕ) (ts : List Txn) → n ≤ m → list_all (λ v. not (nat_lt v.place n)) (placed_from m ts) ≡ true
all_from n m [] le = refl
all_from n m (t ∷ ts) le = all_from_at n m t.writes (placed_from (suc m) ts) le (all_from n (suc m) ts (omega (arith, le)))

ascends_at : (n : ℕ) (ws : List Write) (vs : List PlacedWrite) → AscendsByPlace vs → list_all (λ v. not (nat_lt v.place n)) vs ≡ true
    → AscendsByPlace (placed_at n ws ++ vs)
ascends_at n [] vs up all = up
ascends_at n (w ∷ ws) vs up all = (all_from_at n n ws vs (omega arith) all, ascends_at n ws vs up all)

ascends_from : (n : ℕ) (ts : List Txn) → AscendsByPlace (placed_from n ts)
ascends_from n [] = tt
ascends_from n (t ∷ ts) = ascends_at n t.writes (placed_from (suc n) ts) (ascends_from (suc n) ts) (all_from n (suc n) ts (omega arith))

all_kept : {A : Type 0} (test p : A → Bool) (xs : List A) → list_all test xs ≡ true → list_all test (filter p xs) ≡ true
all_kept test p [] all = refl
all_kept test p (x ∷ xs) all = by_test (p x) (and_parts _ _ all) (all_kept test p xs (and_parts _ _ all).1)
  where
    by_test : (b : Bool) → (test x ≡ true) × (list_all test xs ≡ true) → list_all test (filter p xs) ≡ true
        → list_all test (cond b (x ∷ filter p xs) (filter p xs)) ≡ true
    by_test true q rest = and_from _ _ q.0 rest
    by_test false q rest = rest

ascends_kept : {A : Type 0} (less : A → A → Bool) (p : A → Bool) (xs : List A) → AscendsBy less xs → AscendsBy less (filter p xs)
ascends_kept less p [] up = tt
ascends_kept less p (x ∷ xs) up = by_test (p x) (ascends_kept less p xs up.1)
  where
    by_test : (b : Bool) → AscendsBy less (filter p xs) → AscendsBy less (cond b (x ∷ filter p xs) (filter p xs))
    by_test true rest = (all_kept (λ y. not (less y x)) p xs up.0, rest)
    by_test false rest = rest

pub places_ascend : (k : Bytes) (ts : List Txn) → AscendsByPlace (placed_for k (placed_from 0 ts))
places_ascend k ts = ascends_kept has_earlier_place (λ v. same_key k v.write.key) (placed_from 0 ts) (ascends_from 0 ts)

-- ---- values

-- no member behind one that fails a test passes it
abbrev pub Falls : {A : Type 0} → (A → Bool) → List A → Type 0
Falls test [] = Unit {0}
Falls test (x ∷ xs) = (test x ≡ false → list_all (λ y. not (test y)) xs ≡ true) × Falls test xs

none_shown : (test : Txn → Bool) (ts : List Txn) (k : Bytes) (x : Option Bytes) → list_all (λ t. not (test t)) ts ≡ true → shown test ts k x ≡ x
none_shown test [] k x all = refl
none_shown test (t ∷ ts) k x all = by_test (test t) (and_parts _ _ all) (none_shown test ts k x ((and_parts _ _ all).1))
  where
    by_test : (b : Bool) → (not (test t) ≡ true) × (list_all (λ u. not (test u)) ts ≡ true) → shown test ts k x ≡ x
        → shown test ts k (cond (test t) (written t.writes k x) x) ≡ x
    by_test b p rest = ap (λ c. shown test ts k (cond c (written t.writes k x) x)) (is_false (test t) p.0) ∙ rest
      where
        is_false : (b : Bool) → not b ≡ true → b ≡ false
        is_false true e = cc
        is_false false e = refl

-- none of them is before their first place
none_placed : (n : ℕ) (k : Bytes) (vs : List PlacedWrite) → list_all (λ v. not (nat_lt v.place n)) vs ≡ true → before_place n (placed_for k vs) ≡ []
none_placed n k [] all = refl
none_placed n k (v ∷ vs) all = by_test (same_key k v.write.key) (and_parts _ _ all) (none_placed n k vs ((and_parts _ _ all).1))
  where
    by_place : (b : Bool) → not b ≡ true → before_place n (placed_for k vs) ≡ [] →
        cond b (v ∷ before_place n (placed_for k vs)) (before_place n (placed_for k vs)) ≡ []
    by_place true e rest = cc
    by_place false e rest = rest

    by_test : (b : Bool) → (not (nat_lt v.place n) ≡ true) × (list_all (λ w. not (nat_lt w.place n)) vs ≡ true) → before_place n (placed_for k vs) ≡ []
        → before_place n (cond b (v ∷ placed_for k vs) (placed_for k vs)) ≡ []
    by_test true p rest = by_place (nat_lt v.place n) p.0 rest
    by_test false p rest = rest

-- all of a transaction are before a later place
own_value : (n m : ℕ) (k : Bytes) (ws : List Write) (vs : List PlacedWrite) (x : Option Bytes) → nat_lt n m ≡ true
    → last_value (before_place m (placed_for k (placed_at n ws ++ vs))) x ≡ last_value (before_place m (placed_for k vs)) (written ws k x)
own_value n m k [] vs x lt = refl
own_value n m k (w ∷ ws) vs x lt = by_test (same_key k w.key) (λ y. own_value n m k ws vs y lt)
  where
    rest : List PlacedWrite
    rest = before_place m (placed_for k (placed_at n ws ++ vs))

    by_test : (b : Bool) → ((y : Option Bytes) → last_value rest y ≡ last_value (before_place m (placed_for k vs)) (written ws k y))
        → last_value (before_place m (cond b (record { place = n; write = w } ∷ placed_for k (placed_at n ws ++ vs)) (placed_for k (placed_at n ws ++ vs)))) x
        ≡ last_value (before_place m (placed_for k vs)) (written ws k (cond b w.value x))
    by_test true same = ap (λ c. last_value (cond c (record { place = n; write = w } ∷ rest) rest) x) lt ∙ same w.value
    by_test false same = same x

shown_from : (test : Txn → Bool) (n : ℕ) (ts : List Txn) (k : Bytes) (x : Option Bytes) → Falls test ts
    → shown test ts k x ≡ last_value (before_place (n + front test ts) (placed_for k (placed_from n ts))) x
shown_from test n [] k x falls = refl
shown_from test n (t ∷ ts) k x falls = by_test (test t) refl (λ y. shown_from test (suc n) ts k y falls.1)
  where
    vs : List PlacedWrite
    vs = placed_from n (t ∷ ts)

    by_test : (b : Bool) → test t ≡ b → ((y : Option Bytes) → shown test ts k y ≡ last_value
        (before_place (suc n + front test ts) (placed_for k (placed_from (suc n) ts))) y)
        → shown test ts k (cond b (written t.writes k x) x) ≡ last_value (before_place (n + cond b (suc (front test ts)) 0) (placed_for k vs)) x
    by_test true is rest =
        let more : suc n + front test ts ≡ n + suc (front test ts) = omega arith in
        let before : nat_lt n (n + suc (front test ts)) ≡ true = grind (arith, nat_tests) in
        rest (written t.writes k x)
        ∙ ap (λ m. last_value (before_place m (placed_for k (placed_from (suc n) ts))) (written t.writes k x)) more
        ∙ sym (own_value n (n + suc (front test ts)) k t.writes (placed_from (suc n) ts) x before)
    by_test false is rest =
        let same : n + 0 ≡ n = omega arith in
        none_shown test ts k x (falls.0 is)
        ∙ sym (ap (λ m. last_value (before_place m (placed_for k vs)) x) same
        ∙ ap (λ us. last_value us x) (none_placed n k vs (all_from n n (t ∷ ts) (omega arith))))

pub shown_is : (test : Txn → Bool) (ts : List Txn) (k : Bytes) → Falls test ts → (p : ℕ) → p ≡ front test ts
    → shown test ts k None ≡ last_value (before_place p (placed_for k (placed_from 0 ts))) None
shown_is test ts k falls p is =
    shown_from test 0 ts k None falls ∙ ap (λ n. last_value (before_place n (placed_for k (placed_from 0 ts))) None) (zero_plus (front test ts) ∙ sym is)
  where
    zero_plus : (n : ℕ) → 0 + n ≡ n
    zero_plus n = omega arith

pub last_is : (v : PlacedWrite) (vs : List PlacedWrite) (x : Option Bytes) (d : PlacedWrite) →
    last_value (v ∷ vs) x ≡ (get_or (v ∷ vs) (length vs) d).write.value
last_is v [] x d = refl
last_is v (w ∷ vs) x d = last_is w vs v.write.value d

pub last_at : (vs : List PlacedWrite) (d : PlacedWrite) → 0 < length vs → (get_or vs (length vs - 1) d).write.value ≡ last_value vs None
last_at [] d some = absurd (omega (arith, some))
last_at (v ∷ vs) d some = ap (λ n. (get_or (v ∷ vs) n d).write.value) (one_less (length vs)) ∙ sym (last_is v vs None d)
  where
    one_less : (n : ℕ) → suc n - 1 ≡ n
    one_less n = omega arith
