-- What a transaction keeps over its steps.
use Rattle.std.specs.List.{list_any, list_all}
use Rattle.std.proofs.Common.{◌≡◌, ℕ, ◌+◌, ◌≤◌, ◌<◌, Bool, true, false, cond, not, ◌&&◌, ◌||◌, nat_le, List, [], ◌∷◌, ◌++◌, length, map, refl, sym}
use Rattle.std.proofs.Common.{ap, ◌∙◌, subst, length-append, arith, filter, option_to_list}
use Rattle.std.proofs.lemmas.List.{length-map}
use Rattle.std.proofs.lemmas.Bool.Decides.{nat_tests}
use Rattle.std.proofs.lemmas.Bool.{and_parts, and_from, or_parts, or_from}
use Rattle.units.specs.Lists.{insert, ascends}
use Rattle.units.specs.Keys.{Bytes, same_key, key_before, has_key, write_before, writes_key}
use Rattle.units.specs.declared.writes.Write.{Write}
use Rattle.units.proofs.Folds.{any_append}
use Rattle.units.proofs.KeyLaws.{same_key_comm, same_key-is, key_before-trans, key_before-total}
use Rattle.session.specs.declared.answered.Answered.{Answered}
use Rattle.session.specs.Sessions.{Client, without_key, with_write, asked_keys, was_answered}
use Rattle.session.specs.Shown.{distinct, taken_keys, IsWithinLimits}

-- ---- tests

pub not_true : (a : Bool) → a ≡ false → not a ≡ true
not_true true e = cc
not_true false e = refl

pub not_false : (a : Bool) → not a ≡ true → a ≡ false
not_false true e = cc
not_false false e = refl

pub second : (a b : Bool) → a ≡ false → (a || b) ≡ true → b ≡ true
second true b e f = cc
second false b e f = f

pub each_append : {A : Type 0} (test : A → Bool) (xs ys : List A) → list_all test xs ≡ true → list_all test ys ≡ true → list_all test (xs ++ ys) ≡ true
each_append test [] ys h k = k
each_append test (x ∷ xs) ys h k = and_from _ _ ((and_parts _ _ h).0) (each_append test xs ys ((and_parts _ _ h).1) k)

pub each_keep : {A : Type 0} (test q : A → Bool) (xs : List A) → list_all test xs ≡ true → list_all test (filter q xs) ≡ true
each_keep test q [] h = refl
each_keep {A} test q (x ∷ xs) h = by_test (q x) (each_keep test q xs ((and_parts _ _ h).1))
  where
    by_test : (b : Bool) → list_all test (filter q xs) ≡ true → list_all test (cond b (x ∷ filter q xs) (filter q xs)) ≡ true
    by_test true e = and_from _ _ ((and_parts _ _ h).0) e
    by_test false e = e

pub length_keep : {A : Type 0} (q : A → Bool) (xs : List A) → length (filter q xs) ≤ length xs
length_keep q [] = omega arith
length_keep {A} q (x ∷ xs) = by_test (q x) (length_keep q xs)
  where
    by_test : (b : Bool) → length (filter q xs) ≤ length xs → length (cond b (x ∷ filter q xs) (filter q xs)) ≤ length (x ∷ xs)
    by_test true e = omega (arith, e)
    by_test false e = omega (arith, e)

pub length_insert : {A : Type 0} (less : A → A → Bool) (x : A) (xs : List A) → length (insert less x xs) ≡ length xs + 1
length_insert less x [] = omega arith
length_insert {A} less x (y ∷ ys) = by_test (less y x) (length_insert less x ys)
  where
    by_test : (b : Bool) → length (insert less x ys) ≡ length ys + 1 → length (cond b (y ∷ insert less x ys) (x ∷ y ∷ ys)) ≡ length (y ∷ ys) + 1
    by_test true e = omega (arith, e)
    by_test false e = omega arith

-- ---- members that go by a key

-- a member has the key
abbrev pub keyed : {A : Type 0} → (A → Bytes) → List A → Bytes → Bool
keyed key xs k = list_any (λ x. same_key (key x) k) xs

-- the members without the key
abbrev pub others : {A : Type 0} → (A → Bytes) → List A → Bytes → List A
others key xs k = filter (λ x. not (same_key (key x) k)) xs

-- the order of keys
abbrev pub before : {A : Type 0} → (A → Bytes) → A → A → Bool
before key a b = key_before (key a) (key b)

-- none of the others has the key
pub keyed_others : {A : Type 0} (key : A → Bytes) (xs : List A) (k : Bytes) → keyed key (others key xs k) k ≡ false
keyed_others key [] k = refl
keyed_others {A} key (x ∷ xs) k = by_test (same_key (key x) k) refl (keyed_others key xs k)
  where
    by_test : (b : Bool) → same_key (key x) k ≡ b → keyed key (others key xs k) k ≡ false →
        keyed key (cond (not b) (x ∷ others key xs k) (others key xs k)) k ≡ false
    by_test true is e = e
    by_test false is e = or_from _ _ is e

-- where a member has the key the others are fewer
pub fewer_others : {A : Type 0} (key : A → Bytes) (xs : List A) (k : Bytes) → keyed key xs k ≡ true → length (others key xs k) + 1 ≤ length xs
fewer_others key [] k h = cc
fewer_others {A} key (x ∷ xs) k h = by_test (same_key (key x) k) refl (fewer_others key xs k)
  where
    by_test : (b : Bool) → same_key (key x) k ≡ b → (keyed key xs k ≡ true → length (others key xs k) + 1 ≤ length xs) →
        length (cond (not b) (x ∷ others key xs k) (others key xs k)) + 1 ≤ length (x ∷ xs)
    by_test true is e = omega (arith, length_keep (λ y. not (same_key (key y) k)) xs)
    by_test false is e = omega (arith, e (second _ _ is h))

-- ---- ascending members

-- one that comes before each of an ascending list makes a longer one
ascends_front : {A : Type 0} (less : A → A → Bool) (x : A) (xs : List A) → list_all (less x) xs ≡ true → ascends less xs ≡ true → ascends less (x ∷ xs) ≡ true
ascends_front less x [] h up = refl
ascends_front less x (y ∷ ys) h up = and_from _ _ ((and_parts _ _ h).0) up

-- all but the first ascend
ascends_rest : {A : Type 0} (less : A → A → Bool) (x : A) (xs : List A) → ascends less (x ∷ xs) ≡ true → ascends less xs ≡ true
ascends_rest less x [] up = refl
ascends_rest less x (y ∷ ys) up = (and_parts _ _ up).1

-- the first comes before each other
ascends_first : {A : Type 0} (key : A → Bytes) (x : A) (xs : List A) → ascends (before key) (x ∷ xs) ≡ true → list_all (before key x) xs ≡ true
ascends_first key x [] up = refl
ascends_first {A = A} key x (y ∷ ys) up =
    let p = and_parts _ _ up in
    and_from _ _ p.0 (wider ys (ascends_first key y ys p.1))
  where
    wider : (zs : List A) → list_all (before key y) zs ≡ true → list_all (before key x) zs ≡ true
    wider [] h = refl
    wider (z ∷ zs) h =
        and_from _ _ (key_before-trans (key x) (key y) (key z) ((and_parts _ _ up).0) ((and_parts _ _ h).0)) (wider zs ((and_parts _ _ h).1))

-- some of an ascending list ascend
pub ascends_keep : {A : Type 0} (key : A → Bytes) (q : A → Bool) (xs : List A) → ascends (before key) xs ≡ true → ascends (before key) (filter q xs) ≡ true
ascends_keep key q [] up = refl
ascends_keep {A} key q (x ∷ xs) up = by_test (q x) (ascends_keep key q xs (ascends_rest (before key) x xs up))
  where
    by_test : (b : Bool) → ascends (before key) (filter q xs) ≡ true → ascends (before key) (cond b (x ∷ filter q xs) (filter q xs)) ≡ true
    by_test true e = ascends_front (before key) x (filter q xs) (each_keep (before key x) q xs (ascends_first key x xs up)) e
    by_test false e = e

-- one more in its place, where its key is not there
pub ascends_insert : {A : Type 0} (key : A → Bytes) (x : A) (xs : List A) → keyed key xs (key x) ≡ false → ascends (before key) xs ≡ true
    → ascends (before key) (insert (before key) x xs) ≡ true
ascends_insert key x [] new up = refl
ascends_insert {A} key x (y ∷ ys) new up =
    by_test (key_before (key y) (key x)) refl (ascends_insert key x ys ((or_parts _ _ new).1) (ascends_rest (before key) y ys up))
  where
    behind : (zs : List A) → ascends (before key) (y ∷ zs) ≡ true → key_before (key y) (key x) ≡ true → ascends (before key) (insert (before key) x zs) ≡ true
        → ascends (before key) (y ∷ insert (before key) x zs) ≡ true
    behind [] is less rest = and_from _ _ less refl
    behind (z ∷ zs) is less rest = by_place (key_before (key z) (key x)) rest
      where
        by_place : (b : Bool) → ascends (before key) (cond b (z ∷ insert (before key) x zs) (x ∷ z ∷ zs)) ≡ true
            → ascends (before key) (y ∷ cond b (z ∷ insert (before key) x zs) (x ∷ z ∷ zs)) ≡ true
        by_place true e = and_from _ _ ((and_parts _ _ is).0) e
        by_place false e = and_from _ _ less e

    by_test : (b : Bool) → key_before (key y) (key x) ≡ b → ascends (before key) (insert (before key) x ys) ≡ true
        → ascends (before key) (cond b (y ∷ insert (before key) x ys) (x ∷ y ∷ ys)) ≡ true
    by_test true is rest = behind ys up is rest
    by_test false is rest = and_from _ _ (key_before-total (key y) (key x) ((or_parts _ _ new).0) is) up

-- ---- keys that stand once

pub distinct_more : (ks : List Bytes) (k : Bytes) → distinct ks ≡ true → has_key ks k ≡ false → distinct (ks ++ k ∷ []) ≡ true
distinct_more [] k h new = refl
distinct_more (j ∷ js) k h new =
    let p = and_parts _ _ h in
    let n = or_parts _ _ new in
    and_from _ _
    (not_true _ (any_append (same_key j) js (k ∷ []) ∙ or_from _ _ (not_false _ p.0) (or_from _ _ (same_key_comm j k ∙ n.0) refl)))
    (distinct_more js k p.1 n.1)

taken_more : (taken : List Answered) (a : Answered) → taken_keys (taken ++ a ∷ []) ≡ taken_keys taken ++ a.key ∷ []
taken_more [] a = refl
taken_more (b ∷ bs) a = ap (λ l. b.key ∷ l) (taken_more bs a)

-- keys that were not among some are not among these with one more, once that one is taken out
apart_more : (ks aw : List Bytes) (k : Bytes) → list_all (λ j. not (has_key ks j)) aw ≡ true
    → list_all (λ j. not (has_key (ks ++ k ∷ []) j)) (without_key aw k) ≡ true
apart_more ks [] k h = refl
apart_more ks (j ∷ js) k h = by_test (same_key j k) refl (apart_more ks js k ((and_parts _ _ h).1))
  where
    by_test : (b : Bool) → same_key j k ≡ b → list_all (λ i. not (has_key (ks ++ k ∷ []) i)) (without_key js k) ≡ true →
        list_all (λ i. not (has_key (ks ++ k ∷ []) i)) (cond (not b) (j ∷ without_key js k) (without_key js k)) ≡ true
    by_test true is e = e
    by_test false is e =
        and_from _ _ (not_true _ (any_append (same_key j) ks (k ∷ []) ∙ or_from _ _ (not_false _ ((and_parts _ _ h).0)) (or_from _ _ is refl))) e

-- an awaited key is not taken
pub awaited_apart : (ks aw : List Bytes) (k : Bytes) → list_all (λ j. not (has_key ks j)) aw ≡ true → has_key aw k ≡ true → has_key ks k ≡ false
awaited_apart ks [] k h is = cc
awaited_apart ks (j ∷ js) k h is = by_test (same_key k j) refl (awaited_apart ks js k ((and_parts _ _ h).1))
  where
    by_test : (b : Bool) → same_key k j ≡ b → (has_key js k ≡ true → has_key ks k ≡ false) → has_key ks k ≡ false
    by_test true e rest = subst (λ i. has_key ks i ≡ false) (sym (same_key-is k j e)) (not_false _ ((and_parts _ _ h).0))
    by_test false e rest = rest (second _ _ e is)

-- the key is among those that go by themselves
pub keyed_self : (aw : List Bytes) (k : Bytes) → keyed (λ j. j) aw k ≡ has_key aw k
keyed_self [] k = refl
keyed_self (j ∷ js) k = ap (λ b. b || keyed (λ i. i) js k) (same_key_comm j k) ∙ ap (λ b. same_key k j || b) (keyed_self js k)

-- ---- the steps

pub kept_read : (taken : List Answered) (aw : List Bytes) (ws : List Write) (k : Bytes) → IsWithinLimits taken aw ws
    → length taken + length aw < 128 → has_key (taken_keys taken) k ≡ false → IsWithinLimits taken (aw ++ k ∷ []) ws
kept_read taken aw ws k is few new = record {
  few_keys = omega (arith, few, length-append aw (k ∷ []));
  once = is.once;
  apart = each_append (λ j. not (has_key (taken_keys taken) j)) aw (k ∷ []) is.apart (and_from _ _ (not_true _ new) refl);
  few_writes = is.few_writes;
  ascending = is.ascending;
}

pub kept_taken : (taken : List Answered) (aw : List Bytes) (ws : List Write) (a : Answered) → IsWithinLimits taken aw ws
    → has_key aw a.key ≡ true → IsWithinLimits (taken ++ a ∷ []) (without_key aw a.key) ws
kept_taken taken aw ws a is awaited = record {
  few_keys = omega (arith, is.few_keys, length-append taken (a ∷ []), fewer_others (λ (j : Bytes). j) aw a.key (keyed_self aw a.key ∙ awaited));
  once = subst (λ ks. distinct ks ≡ true) (sym (taken_more taken a)) (distinct_more (taken_keys taken) a.key is.once
      (awaited_apart (taken_keys taken) aw a.key is.apart awaited));
  apart = subst (λ ks. list_all (λ j. not (has_key ks j)) (without_key aw a.key) ≡ true) (sym (taken_more taken a))
      (apart_more (taken_keys taken) aw a.key is.apart);
  few_writes = is.few_writes;
  ascending = is.ascending;
}

pub kept_doomed : (taken : List Answered) (aw : List Bytes) (ws : List Write) (k : Bytes) → IsWithinLimits taken aw ws →
    IsWithinLimits taken (without_key aw k) ws
kept_doomed taken aw ws k is = record {
  few_keys = omega (arith, is.few_keys, length_keep (λ j. not (same_key j k)) aw);
  once = is.once;
  apart = each_keep (λ j. not (has_key (taken_keys taken) j)) (λ j. not (same_key j k)) aw is.apart;
  few_writes = is.few_writes;
  ascending = is.ascending;
}

pub kept_written : (taken : List Answered) (aw : List Bytes) (ws : List Write) (w : Write) → IsWithinLimits taken aw ws
    → (nat_le 128 (length ws) && not (writes_key ws w.key)) ≡ false → IsWithinLimits taken aw (with_write ws w)
kept_written taken aw ws w is may = record {
  few_keys = is.few_keys;
  once = is.once;
  apart = is.apart;
  few_writes = few (writes_key ws w.key) refl may;
  ascending = ascends_insert (λ (v : Write). v.key) w (others (λ (v : Write). v.key) ws w.key) (keyed_others (λ (v : Write). v.key) ws w.key)
      (ascends_keep (λ (v : Write). v.key) (λ (v : Write). not (same_key v.key w.key)) ws is.ascending);
}
  where
    less : (n : ℕ) → (nat_le 128 n && true) ≡ false → n < 128
    less n h = grind (arith, nat_tests)

    few : (b : Bool) → writes_key ws w.key ≡ b → (nat_le 128 (length ws) && not b) ≡ false → length (with_write ws w) ≤ 128
    few true e h = omega (
      arith,
      is.few_writes,
      length_insert write_before w (others (λ (v : Write). v.key) ws w.key),
      fewer_others (λ (v : Write). v.key) ws w.key e,
    )
    few false e h = omega (
      arith,
      less (length ws) h,
      length_insert write_before w (others (λ (v : Write). v.key) ws w.key),
      length_keep (λ (v : Write). not (same_key v.key w.key)) ws,
    )

-- ---- what the tests say

-- the keys that were asked for are below 128
pub few_asked : (c : Client) → nat_le 128 (length (asked_keys c)) ≡ false → length c.taken + length c.awaited < 128
few_asked c h =
    omega (
      arith,
      under (length (asked_keys c)) h,
      length-append (map key_of c.taken ++ option_to_list c.doom) c.awaited,
      length-append (map key_of c.taken) (option_to_list c.doom),
      length-map c.taken key_of,
    )
  where
    key_of : Answered → Bytes
    key_of = λ a. a.key

    under : (n : ℕ) → nat_le 128 n ≡ false → n < 128
    under n e = grind (arith, nat_tests)

-- the key is not among those that were taken
pub not_taken : (taken : List Answered) (k : Bytes) → list_any (λ a. same_key a.key k) taken ≡ false → has_key (taken_keys taken) k ≡ false
not_taken [] k h = refl
not_taken (a ∷ rest) k h =
    let n = or_parts _ _ h in
    or_from _ _ (same_key_comm k a.key ∙ n.0) (not_taken rest k n.1)

pub not_answered : (c : Client) (k : Bytes) → was_answered c k ≡ false → has_key (taken_keys c.taken) k ≡ false
not_answered c k h = not_taken c.taken k ((or_parts _ _ h).0)
