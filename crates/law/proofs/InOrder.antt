-- The history has each id once, and so its serial order is strict.
use Rattle.std.proofs.Common.{◌≡◌, ◌⊎◌, inl, inr, ℕ, ◌≤◌, Bool, true, false, cond, nat_eq, List, [], ◌∷◌, ◌++◌, length, Option, Some, None, map, refl}
use Rattle.std.proofs.Common.{sym, ap, subst, ◌∙◌, arith, filter, flat_map}
use Rattle.std.proofs.lemmas.Bool.Decides.{nat_tests}
use Rattle.std.proofs.lemmas.List.Elements.{filter-append}
use Rattle.units.specs.Lists.{gather, head, when, insert}
use Rattle.units.specs.Ids.{Id, same_id}
use Rattle.units.specs.Keys.{Bytes}
use Rattle.units.proofs.Folds.{gather_append}
use Rattle.units.proofs.IdLaws.{same_id-refl, same_id_comm}
use Rattle.record.specs.History.{Txn, Map, history, by_shard, whole_txn, serial_before, serial, put_all, applied, find_txn, before, empty}
use Rattle.record.specs.Records.{as_committed}
use Rattle.record.specs.Whole.{is_whole, is_whole_by, Decision, decisions}
use Rattle.record.specs.declared.record.Committed.{Committed}
use Rattle.record.specs.declared.record.Record.{Record}
use Rattle.law.specs.Among.{IsAmong}
use Rattle.law.proofs.Members.{among_right}
use Rattle.law.proofs.Picked.{keep_among, AtMostOne}

-- ---- each id once

pub one_decision : (logs : List (List Record)) (t : Id) → is_whole t logs ≡ true → AtMostOne (decisions logs t)
unfolding is_whole
one_decision logs t e = by_list (decisions logs t) e
  where
    by_list : (ds : List Decision) → is_whole_by logs t ds ≡ true → AtMostOne ds
    by_list [] k = tt
    by_list (d ∷ []) k = tt
    by_list (d ∷ q ∷ ds) k = cc

module _ (logs : List (List Record)) (t : Id) where
  abbrev counted : ℕ → Committed → Option Txn
  counted n c = cond (when (nat_eq n) (head c.parts)) (Some (whole_txn logs n c)) None

  abbrev counted_in : ℕ × List Record → List Txn
  counted_in l = gather (counted l.0) (gather as_committed l.1)

  abbrev decided_in : ℕ × List Record → List Decision
  decided_in l = map (λ c. record { shard = l.0; commit = c }) (filter (λ c. same_id t c.txn) (gather as_committed l.1))

  abbrev of_decision : Decision → Option Txn
  of_decision d = counted d.shard d.commit

  abbrev is_this : Txn → Bool
  is_this u = same_id t u.txn

  one_log : (n : ℕ) (cs : List Committed) → filter is_this (gather (counted n) cs) ≡ gather of_decision
      (map (λ c. record { shard = n; commit = c }) (filter (λ c. same_id t c.txn) cs))
  one_log n [] = refl
  one_log n (c ∷ cs) = by_tests (when (nat_eq n) (head c.parts)) refl (same_id t c.txn) refl (one_log n cs)
    where
      mark : Committed → Decision
      mark q = record { shard = n; commit = q }

      by_tests : (b : Bool) → when (nat_eq n) (head c.parts) ≡ b → (s : Bool) → same_id t c.txn ≡ s →
          filter is_this (gather (counted n) cs) ≡ gather of_decision (map mark (filter (λ q. same_id t q.txn) cs)) →
          filter is_this (elim (cond b (Some (whole_txn logs n c)) None) as (λ q. List Txn) [
            | None ↦ gather (counted n) cs
            | Some y ↦
                y ∷ gather (counted n) cs
          ])
          ≡ gather of_decision (map mark (cond s (c ∷ filter (λ q. same_id t q.txn) cs) (filter (λ q. same_id t q.txn) cs)))
      by_tests true e true k ih =
          ap (λ b. cond b (whole_txn logs n c ∷ filter is_this (gather (counted n) cs)) (filter is_this (gather (counted n) cs))) k
          ∙ ap (λ (l : List Txn). whole_txn logs n c ∷ l) ih
          ∙ sym (ap (λ b. elim (cond b (Some (whole_txn logs n c)) None) as (λ q. List Txn) [
            | None ↦ gather of_decision (map mark (filter (λ q. same_id t q.txn) cs))
            | Some y ↦ y ∷ gather of_decision (map mark (filter (λ q. same_id t q.txn) cs))
          ]) e)
      by_tests true e false k ih = ap (λ b. cond b (whole_txn logs n c ∷ filter is_this (gather (counted n) cs))
          (filter is_this (gather (counted n) cs))) k ∙ ih
      by_tests false e true k ih =
          ih ∙ sym (ap (λ b. elim (cond b (Some (whole_txn logs n c)) None) as (λ q. List Txn) [
            | None ↦ gather of_decision (map mark (filter (λ q. same_id t q.txn) cs))
            | Some y ↦ y ∷ gather of_decision (map mark (filter (λ q. same_id t q.txn) cs))
          ]) e)
      by_tests false e false k ih = ih

  all_logs : (ls : List (ℕ × List Record)) → filter is_this (flat_map counted_in ls) ≡ gather of_decision (flat_map decided_in ls)
  all_logs [] = refl
  all_logs (l ∷ ls) =
      filter-append is_this (counted_in l) (flat_map counted_in ls)
      ∙ ap (λ (x : List Txn). x ++ filter is_this (flat_map counted_in ls)) (one_log l.0 (gather as_committed l.1))
      ∙ ap (λ (x : List Txn). gather of_decision (decided_in l) ++ x) (all_logs ls)
      ∙ sym (gather_append of_decision (decided_in l) (flat_map decided_in ls))

  gather_one : (ds : List Decision) → AtMostOne ds → AtMostOne (gather of_decision ds)
  gather_one [] one = tt
  gather_one (d ∷ []) one = by_value (of_decision d)
    where
      by_value : (o : Option Txn) → AtMostOne (elim o as (λ q. List Txn) [ None ↦ [] | Some y ↦ y ∷ [] ])
      by_value None = tt
      by_value (Some y) = tt
  gather_one (d ∷ q ∷ ds) one = absurd one

  -- an id is in the history at most once
  pub in_history_once : is_whole t logs ≡ true → AtMostOne (filter is_this (history logs))
  unfolding history
  in_history_once e = subst AtMostOne (sym (all_logs (by_shard logs))) (gather_one (decisions logs t) (one_decision logs t e))

abbrev pub EachOnce : List Txn → Type 0
EachOnce h = (t : Id) → AtMostOne (filter (λ u. same_id t u.txn) h)

-- no two have one id
abbrev pub Apart : List Txn → Type 0
Apart [] = Unit {0}
Apart (t ∷ ts) = ((u : Txn) → IsAmong ts u → same_id t.txn u.txn ≡ false) × Apart ts

pub apart : (h : List Txn) → EachOnce h → Apart h
apart [] once = tt
apart (t ∷ ts) once = (other, apart ts later)
  where
    other : (u : Txn) → IsAmong ts u → same_id t.txn u.txn ≡ false
    other u k = by_test (same_id t.txn u.txn) refl
      where
        two : same_id t.txn u.txn ≡ true → AtMostOne (t ∷ filter (λ v. same_id t.txn v.txn) ts) → ⊥
        two e one = by_list (filter (λ v. same_id t.txn v.txn) ts) (keep_among (λ (v : Txn). same_id t.txn v.txn) ts u k e) one
          where
            by_list : (l : List Txn) → IsAmong l u → AtMostOne (t ∷ l) → ⊥
            by_list [] j q = j
            by_list (v ∷ l) j q = q

        by_test : (b : Bool) → same_id t.txn u.txn ≡ b → same_id t.txn u.txn ≡ false
        by_test false e = e
        by_test true e = absurd (two e (subst (λ b. AtMostOne (cond b (t ∷ filter (λ v. same_id t.txn v.txn) ts)
            (filter (λ v. same_id t.txn v.txn) ts))) (same_id-refl t.txn) (once t.txn)))

    later : EachOnce ts
    later i = by_test (same_id i t.txn) (once i)
      where
        rest : (l : List Txn) → AtMostOne (t ∷ l) → AtMostOne l
        rest [] q = tt
        rest (v ∷ l) q = absurd q

        by_test : (b : Bool) → AtMostOne (cond b (t ∷ filter (λ v. same_id i v.txn) ts) (filter (λ v. same_id i v.txn) ts)) →
            AtMostOne (filter (λ v. same_id i v.txn) ts)
        by_test true q = rest (filter (λ v. same_id i v.txn) ts) q
        by_test false q = q

-- the transaction of its id
pub found : (h : List Txn) (u : Txn) → Apart h → IsAmong h u → find_txn h u.txn ≡ Some u
found [] u a k = absurd k
found (t ∷ ts) u a (inl same) = subst (λ z. find_txn (t ∷ ts) z.txn ≡ Some z) same
    (ap (λ b. head (cond b (t ∷ filter (λ v. same_id v.txn t.txn) ts) (filter (λ v. same_id v.txn t.txn) ts))) (same_id-refl t.txn))
found (t ∷ ts) u a (inr later) =
    ap (λ b. head (cond b (t ∷ filter (λ v. same_id v.txn u.txn) ts) (filter (λ v. same_id v.txn u.txn) ts))) (a.0 u later) ∙ found ts u a.1 later

-- ---- the order is strict

abbrev pub Strict : List Txn → Type 0
Strict [] = Unit {0}
Strict (t ∷ ts) = ((u : Txn) → IsAmong ts u → serial_before t u ≡ true) × Strict ts

pub before_trans : (a b c : Txn) → serial_before a b ≡ true → serial_before b c ≡ true → serial_before a c ≡ true
before_trans a b c h k = grind (arith, nat_tests)

pub before_total : (a b : Txn) → same_id a.txn b.txn ≡ false → serial_before a b ≡ false → serial_before b a ≡ true
before_total a b h k = grind (arith, nat_tests)

pub before_not_back : (a b : Txn) → serial_before a b ≡ true → serial_before b a ≡ false
before_not_back a b h = grind (arith, nat_tests)

pub not_before_self : (a : Txn) → serial_before a a ≡ false
not_before_self a = grind (arith, nat_tests)

pub before_low : (a b : Txn) → serial_before a b ≡ true → a.at ≤ b.at
before_low a b h = grind (arith, nat_tests)

pub insert_cases : (x : Txn) (ys : List Txn) (u : Txn) → IsAmong (insert serial_before x ys) u → (x ≡ u) ⊎ IsAmong ys u
insert_cases x [] u (inl same) = inl same
insert_cases x [] u (inr none) = absurd none
insert_cases x (y ∷ ys) u h = by_test (serial_before y x) h (λ k. insert_cases x ys u k)
  where
    by_test : (b : Bool) → IsAmong (cond b (y ∷ insert serial_before x ys) (x ∷ y ∷ ys)) u →
        (IsAmong (insert serial_before x ys) u → (x ≡ u) ⊎ IsAmong ys u) → (x ≡ u) ⊎ IsAmong (y ∷ ys) u
    by_test true (inl same) rest = inr (inl same)
    by_test true (inr later) rest = elim (rest later) [ inl same ↦ inl same | inr k ↦ inr (inr k) ]
    by_test false (inl same) rest = inl same
    by_test false (inr later) rest = inr later

insert_strict : (x : Txn) (ys : List Txn) → Strict ys → ((u : Txn) → IsAmong ys u → same_id x.txn u.txn ≡ false) → Strict (insert serial_before x ys)
insert_strict x [] s other = ((λ u none. absurd none), tt)
insert_strict x (y ∷ ys) s other = by_test (serial_before y x) refl (insert_strict x ys s.1 (λ u k. other u (inr k)))
  where
    by_test : (b : Bool) → serial_before y x ≡ b → Strict (insert serial_before x ys) → Strict (cond b (y ∷ insert serial_before x ys) (x ∷ y ∷ ys))
    by_test true e rest = (
      λ u k. elim (insert_cases x ys u k) [
        | inl same ↦ subst (λ (z : Txn). serial_before y z ≡ true) same e
        | inr old ↦ s.0 u old
      ],
      rest,
    )
    by_test false e rest =
        let up : serial_before x y ≡ true = before_total y x (same_id_comm y.txn x.txn ∙ other y (inl refl)) e in (
          λ u k. elim k [
            | inl same ↦ subst (λ (z : Txn). serial_before x z ≡ true) same up
            | inr old ↦ before_trans x y u up (s.0 u old)
          ],
          s,
        )

pub serial_from : (h : List Txn) (u : Txn) → IsAmong (serial h) u → IsAmong h u
serial_from [] u k = absurd k
serial_from (t ∷ ts) u k = elim (insert_cases t (serial ts) u k) [ inl same ↦ inl same | inr old ↦ inr (serial_from ts u old) ]

pub serial_strict : (h : List Txn) → Apart h → Strict (serial h)
serial_strict [] a = tt
serial_strict (t ∷ ts) a = insert_strict t (serial ts) (serial_strict ts a.1) (λ u k. a.0 u (serial_from ts u k))

-- ---- who comes before one

keep_nobody : (test : Txn → Bool) (ts : List Txn) → ((u : Txn) → IsAmong ts u → test u ≡ false) → filter test ts ≡ []
keep_nobody test [] none = refl
keep_nobody test (t ∷ ts) none = ap (λ b. cond b (t ∷ filter test ts) (filter test ts)) (none t (inl refl)) ∙ keep_nobody test ts (λ u k. none u (inr k))

pub nobody : (test : Txn → Bool) (ts : List Txn) → ((u : Txn) → IsAmong ts u → test u ≡ false) → filter test ts ≡ []
nobody = keep_nobody

-- in the strict order those before one are the ones in front of it
pub in_front : (pre : List Txn) (u : Txn) (post : List Txn) → Strict (pre ++ u ∷ post) → filter (λ v. serial_before v u) (pre ++ u ∷ post) ≡ pre
in_front [] u post s =
    ap (λ b. cond b (u ∷ filter (λ v. serial_before v u) post) (filter (λ v. serial_before v u) post)) (not_before_self u)
    ∙ keep_nobody (λ v. serial_before v u) post (λ v k. before_not_back u v (s.0 v k))
in_front (p ∷ ps) u post s =
    ap (λ b. cond b (p ∷ filter (λ v. serial_before v u) (ps ++ u ∷ post)) (filter (λ v. serial_before v u) (ps ++ u ∷ post)))
    (s.0 u (among_right ps (u ∷ post) u (inl refl)))
    ∙ ap (λ (l : List Txn). p ∷ l) (in_front ps u post s.1)

pub applied_more : (pre : List Txn) (u : Txn) (m : Map) → applied (pre ++ u ∷ []) m ≡ put_all u.writes (applied pre m)
applied_more [] u m = refl
applied_more (p ∷ ps) u m = applied_more ps u (put_all p.writes m)

-- so the map before one is what those in front of it leave
pub front_leaves : (h : List Txn) → Apart h → (front : List Txn) (u : Txn) (back : List Txn) → serial h ≡ front ++ u ∷ back → (k : Bytes) →
    before h u k ≡ applied front empty k
unfolding before
front_leaves h apart front u back same k =
    ap (λ (l : List Txn). applied l empty k)
    (ap (λ (l : List Txn). filter (λ v. serial_before v u) l) same ∙ in_front front u back (subst Strict same (serial_strict h apart)))

-- at most one is a length of at most one
pub once_is_one : (us : List Txn) → AtMostOne us → length us ≤ 1
once_is_one [] one = omega arith
once_is_one (u ∷ []) one = omega arith
once_is_one (u ∷ v ∷ us) one = absurd one
