-- The value of a key in the serial run is that of its newest version.
use Rattle.std.proofs.Common.{◌≡◌, inl, inr, ℕ, ◌≤◌, Bool, true, false, cond, nat_lt, List, [], ◌∷◌, Option, Some, None}
use Rattle.std.proofs.Common.{refl, sym, ap, subst, ◌∙◌, arith, filter}
use Rattle.std.proofs.lemmas.Bool.Decides.{nat_tests}
use Rattle.units.specs.Keys.{Bytes, same_key}
use Rattle.units.specs.Lists.{insert, follow}
use Rattle.units.specs.Versions.{newest, of_key, latest}
use Rattle.units.specs.declared.writes.Install.{Install}
use Rattle.units.specs.declared.writes.Write.{Write}
use Rattle.units.proofs.KeyLaws.{same_key-is, same_key-refl}
use Rattle.record.specs.History.{Txn, Map, serial_before, serial, put, put_all, applied, empty}
use Rattle.law.specs.Among.{IsAmong}
use Rattle.law.proofs.InOrder.{before_low, insert_cases, serial_from}
use Rattle.law.proofs.Picked.{keep_among, kept_passes, some_same}
use Rattle.law.proofs.Recorded.{among_keep}

-- ---- transactions by timestamp

-- no timestamp is below one before it
abbrev pub Rising : List Txn → Type 0
Rising [] = Unit {0}
Rising (t ∷ ts) = ((u : Txn) → IsAmong ts u → t.at ≤ u.at) × Rising ts

not_before_low : (a b : Txn) → serial_before a b ≡ false → b.at ≤ a.at
not_before_low a b e = grind (arith, nat_tests)

insert_first : (x : Txn) (ys : List Txn) → IsAmong (insert serial_before x ys) x
insert_first x [] = inl refl
insert_first x (y ∷ ys) = by_test (serial_before y x) (insert_first x ys)
  where
    by_test : (b : Bool) → IsAmong (insert serial_before x ys) x → IsAmong (cond b (y ∷ insert serial_before x ys) (x ∷ y ∷ ys)) x
    by_test true k = inr k
    by_test false k = inl refl

insert_rest : (x : Txn) (ys : List Txn) (u : Txn) → IsAmong ys u → IsAmong (insert serial_before x ys) u
insert_rest x [] u h = absurd h
insert_rest x (y ∷ ys) u h = by_test (serial_before y x) h (λ k. insert_rest x ys u k)
  where
    by_test : (b : Bool) → IsAmong (y ∷ ys) u → (IsAmong ys u → IsAmong (insert serial_before x ys) u) →
        IsAmong (cond b (y ∷ insert serial_before x ys) (x ∷ y ∷ ys)) u
    by_test true (inl same) rest = inl same
    by_test true (inr later) rest = inr (rest later)
    by_test false k rest = inr k

insert_rises : (x : Txn) (ys : List Txn) → Rising ys → Rising (insert serial_before x ys)
insert_rises x [] r = ((λ u none. absurd none), tt)
insert_rises x (y ∷ ys) r = by_test (serial_before y x) refl (insert_rises x ys r.1)
  where
    by_test : (b : Bool) → serial_before y x ≡ b → Rising (insert serial_before x ys) → Rising (cond b (y ∷ insert serial_before x ys) (x ∷ y ∷ ys))
    by_test true e rest = (
      λ u k. elim (insert_cases x ys u k) [
        | inl same ↦ subst (λ (z : Txn). y.at ≤ z.at) same (before_low y x e)
        | inr old ↦ r.0 u old
      ],
      rest,
    )
    by_test false e rest =
        let low = not_before_low y x e in (
          λ u k. elim k [
            | inl same ↦ subst (λ (z : Txn). x.at ≤ z.at) same low
            | inr old ↦ let up = r.0 u old in omega (arith, low, up)
          ],
          r,
        )

pub serial_rises : (h : List Txn) → Rising (serial h)
serial_rises [] = tt
serial_rises (t ∷ ts) = insert_rises t (serial ts) (serial_rises ts)

pub serial_has : (h : List Txn) (u : Txn) → IsAmong h u → IsAmong (serial h) u
serial_has [] u k = absurd k
serial_has (t ∷ ts) u (inl same) = subst (λ z. IsAmong (serial (t ∷ ts)) z) same (insert_first t (serial ts))
serial_has (t ∷ ts) u (inr later) = insert_rest t (serial ts) u (serial_has ts u later)

keep_rises : (test : Txn → Bool) (ts : List Txn) → Rising ts → Rising (filter test ts)
keep_rises test [] r = tt
keep_rises test (t ∷ ts) r = by_test (test t) (keep_rises test ts r.1)
  where
    by_test : (b : Bool) → Rising (filter test ts) → Rising (cond b (t ∷ filter test ts) (filter test ts))
    by_test true rest = ((λ u k. r.0 u (among_keep test ts u k)), rest)
    by_test false rest = rest

-- ---- the value that is written last

put_key : (k : Bytes) (w : Write) (m : Map) → w.key ≡ k → put w m k ≡ w.value
put_key k w m e = ap (λ b. cond b w.value (m k)) (subst (λ j. same_key k j ≡ true) (sym e) (same_key-refl k))

-- writes of one key that all have one value
put_same : (ws : List Write) (m : Map) (k : Bytes) (x : Option Bytes) → ((w : Write) → IsAmong ws w → w.key ≡ k → w.value ≡ x) → m k ≡ x → put_all ws m k ≡ x
put_same [] m k x all e = e
put_same (w ∷ ws) m k x all e = put_same ws (put w m) k x (λ v h is. all v (inr h) is) (by_test (same_key k w.key) refl)
  where
    by_test : (b : Bool) → same_key k w.key ≡ b → cond b w.value (m k) ≡ x
    by_test true same = all w (inl refl) (sym (same_key-is k w.key same))
    by_test false same = e

pub put_written : (ws : List Write) (m : Map) (k : Bytes) (x : Option Bytes) (w : Write) → ((v : Write) → IsAmong ws v → v.key ≡ k → v.value ≡ x) →
    IsAmong ws w → w.key ≡ k → put_all ws m k ≡ x
put_written [] m k x w all h is = absurd h
put_written (v ∷ ws) m k x w all (inl same) is =
    let key : v.key ≡ k = ap (λ (z : Write). z.key) same ∙ is in
    put_same ws (put v m) k x (λ u h j. all u (inr h) j) (put_key k v m key ∙ all v (inl refl) key)
put_written (v ∷ ws) m k x w all (inr later) is = put_written ws (put v m) k x w (λ u h j. all u (inr h) j) later is

pub put_untouched : (ws : List Write) (m : Map) (k : Bytes) → ((w : Write) → IsAmong ws w → w.key ≡ k → ⊥) → put_all ws m k ≡ m k
put_untouched [] m k none = refl
put_untouched (w ∷ ws) m k none = put_untouched ws (put w m) k (λ v h is. none v (inr h) is) ∙ by_test (same_key k w.key) refl
  where
    by_test : (b : Bool) → same_key k w.key ≡ b → cond b w.value (m k) ≡ m k
    by_test true same = absurd (none w (inl refl) (sym (same_key-is k w.key same)))
    by_test false same = refl

-- nobody writes the key
applied_untouched : (ts : List Txn) (m : Map) (k : Bytes) → ((t : Txn) (w : Write) → IsAmong ts t → IsAmong t.writes w → w.key ≡ k → ⊥) → applied ts m k ≡ m k
applied_untouched [] m k none = refl
applied_untouched (t ∷ ts) m k none =
    applied_untouched ts (put_all t.writes m) k (λ u w h. none u w (inr h)) ∙ put_untouched t.writes m k (λ w h. none t w (inl refl) h)

module _ (k : Bytes) (x : Option Bytes) (top : ℕ) where
  -- nobody writes the key above a timestamp, and who writes it there writes one value
  abbrev IsTopped : List Txn → Type 0
  IsTopped ts = (t : Txn) (w : Write) → IsAmong ts t → IsAmong t.writes w → w.key ≡ k → (t.at ≤ top) × (t.at ≡ top → w.value ≡ x)

  stays : (ts : List Txn) (m : Map) → IsTopped ts → ((t : Txn) → IsAmong ts t → top ≤ t.at) → m k ≡ x → applied ts m k ≡ x
  stays [] m topped late e = e
  stays (t ∷ ts) m topped late e =
      stays ts (put_all t.writes m) (λ u w h. topped u w (inr h)) (λ u h. late u (inr h))
      (put_same t.writes m k x (λ w h is. let low = (topped t w (inl refl) h is).0 in let high = late t (inl refl) in
      (topped t w (inl refl) h is).1 (omega (arith, low, high))) e)

  pub written_last : (ts : List Txn) (m : Map) (t : Txn) (w : Write) → Rising ts → IsTopped ts → IsAmong ts t → IsAmong t.writes w → w.key ≡ k →
      t.at ≡ top → applied ts m k ≡ x
  written_last [] m t w r topped h j is e = absurd h
  written_last (u ∷ ts) m t w r topped (inl same) j is e =
      let at_top : u.at ≡ top = ap (λ (z : Txn). z.at) same ∙ e in
      stays ts (put_all u.writes m) (λ v q h. topped v q (inr h)) (λ v h. let up = r.0 v h in omega (arith, up, at_top))
      (put_written u.writes m k x w (λ v h q. (topped u v (inl refl) h q).1 at_top) (subst (λ (z : Txn). IsAmong z.writes w) (sym same) j) is)
  written_last (u ∷ ts) m t w r topped (inr later) j is e = written_last ts (put_all u.writes m) t w r.1 (λ v q h. topped v q (inr h)) later j is e

-- ---- the newest version

-- a version with none above it
pub record IsNewest (is : List Install) (i : Install) : Type 0 where
  pub among : IsAmong is i
  pub above : (j : Install) → IsAmong is j → j.at ≤ i.at

pub newest_none : (is : List Install) (i : Install) → newest is ≡ None → IsAmong is i → ⊥
newest_none [] i e h = h
newest_none (j ∷ js) i e h = by_value (newest js) e
  where
    by_test : (b : Bool) (l : Install) → cond b (Some l) (Some j) ≡ None → ⊥
    by_test true l k = cc
    by_test false l k = cc

    by_value : (o : Option Install) → (elim o as (λ q. Option Install) [ None ↦ Some j | Some l ↦ cond (nat_lt j.at l.at) (Some l) (Some j) ]) ≡ None → ⊥
    by_value None k = cc
    by_value (Some l) k = by_test (nat_lt j.at l.at) l k

pub newest_is : (is : List Install) (i : Install) → newest is ≡ Some i → IsNewest is i
newest_is [] i e = cc
newest_is (j ∷ js) i e = by_value (newest js) refl e (λ l k. newest_is js l k)
  where
    less : (m n : ℕ) → nat_lt m n ≡ true → m ≤ n
    less m n h = grind (arith, nat_tests)

    not_less : (m n : ℕ) → nat_lt m n ≡ false → n ≤ m
    not_less m n h = grind (arith, nat_tests)

    by_test : (b : Bool) (l : Install) → nat_lt j.at l.at ≡ b → cond b (Some l) (Some j) ≡ Some i → IsNewest js l → IsNewest (j ∷ js) i
    by_test true l t k n =
        let same : l ≡ i = some_same l i k in
        subst (IsNewest (j ∷ js)) same (record {
          among = inr n.among;
          above = λ q h. elim h [ inl is ↦ subst (λ (z : Install). z.at ≤ l.at) is (less j.at l.at t) | inr old ↦ n.above q old ];
        })
    by_test false l t k n =
        let same : j ≡ i = some_same j i k in
        let low = not_less j.at l.at t in
        subst (IsNewest (j ∷ js)) same (record {
          among = inl refl;
          above = λ q h. elim h [ inl is ↦ subst (λ (z : Install). z.at ≤ j.at) is (omega arith) | inr old ↦ let up = n.above q old in omega (arith, up, low) ];
        })

    by_value : (o : Option Install) → newest js ≡ o → (elim o as (λ q. Option Install) [
      | None ↦ Some j
      | Some l ↦
          cond (nat_lt j.at l.at) (Some l) (Some j)
    ]) ≡ Some i →
        ((l : Install) → newest js ≡ Some l → IsNewest js l) → IsNewest (j ∷ js) i
    by_value None is k rest =
        let same : j ≡ i = some_same j i k in
        subst (IsNewest (j ∷ js)) same (record {
          among = inl refl;
          above = λ q h. elim h [ inl is2 ↦ subst (λ (z : Install). z.at ≤ j.at) is2 (omega arith) | inr old ↦ absurd (newest_none js q is old) ];
        })
    by_value (Some l) is k rest = by_test (nat_lt j.at l.at) l refl k (rest l is)

-- ---- the serial run and the versions

-- a transaction that writes a key
pub record Writes (h : List Txn) (test : Txn → Bool) (k : Bytes) (at : ℕ) : Type 0 where
  pub txn : Txn
  pub among : IsAmong h txn
  pub passes : test txn ≡ true
  pub stamp : txn.at ≡ at
  pub write : Write
  pub within : IsAmong txn.writes write
  pub key : write.key ≡ k

-- a version of a key
pub record IsInstalled (is : List Install) (k : Bytes) (at : ℕ) (x : Option Bytes) : Type 0 where
  pub install : Install
  pub among : IsAmong is install
  pub key : install.key ≡ k
  pub stamp : install.at ≡ at
  pub value : install.value ≡ x

-- the transactions of a test and some versions say the same of a key
pub record Agree (h : List Txn) (test : Txn → Bool) (is : List Install) (k : Bytes) : Type 0 where
  pub installed : (t : Txn) (w : Write) → IsAmong h t → test t ≡ true → IsAmong t.writes w → w.key ≡ k → IsInstalled is k t.at w.value
  pub written : (i : Install) → IsAmong is i → i.key ≡ k → Writes h test k i.at
  -- one value at one time
  pub once : (i j : Install) → IsAmong is i → IsAmong is j → i.key ≡ k → j.key ≡ k → i.at ≡ j.at → i.value ≡ j.value

-- then the value of the serial run is that of the newest version
pub serial_value : (h : List Txn) (test : Txn → Bool) (is : List Install) (k : Bytes) → Agree h test is k →
    applied (filter test (serial h)) empty k ≡ latest is k
unfolding latest
serial_value h test is k agree = by_value (newest (of_key is k)) refl
  where
    in_history : (t : Txn) → IsAmong (filter test (serial h)) t → IsAmong h t × (test t ≡ true)
    in_history t j = (serial_from h t (among_keep test (serial h) t j), kept_passes test (serial h) t j)

    of_this : (i : Install) → IsAmong (of_key is k) i → IsAmong is i × (i.key ≡ k)
    of_this i j = (among_keep (λ (q : Install). same_key q.key k) is i j, same_key-is i.key k (kept_passes (λ (q : Install). same_key q.key k) is i j))

    is_this : (i : Install) → IsAmong is i → i.key ≡ k → IsAmong (of_key is k) i
    is_this i j e = keep_among (λ (q : Install). same_key q.key k) is i j (subst (λ z. same_key z k ≡ true) (sym e) (same_key-refl k))

    by_value : (o : Option Install) → newest (of_key is k) ≡ o → applied (filter test (serial h)) empty k ≡ follow o (λ i. i.value)
    by_value None e = applied_untouched (filter test (serial h)) empty k (λ t w j in_it key.
        let p = in_history t j in
        let v = agree.installed t w p.0 p.1 in_it key in
        newest_none (of_key is k) v.install e (is_this v.install v.among v.key))
    by_value (Some i) e =
        let n = newest_is (of_key is k) i e in
        let p = of_this i n.among in
        let by = agree.written i p.0 p.1 in
        written_last k i.value i.at (filter test (serial h)) empty by.txn by.write (keep_rises test (serial h) (serial_rises h))
        (λ t w j in_it key.
        let q = in_history t j in
        let v = agree.installed t w q.0 q.1 in_it key in
        let stamp = v.stamp in
        let up = n.above v.install (is_this v.install v.among v.key) in
        ((omega (arith, up, stamp)), λ same. sym v.value ∙ agree.once v.install i v.among p.0 v.key p.1 (stamp ∙ same)))
        (keep_among test (serial h) by.txn (serial_has h by.txn by.among) by.passes) by.within by.key by.stamp
