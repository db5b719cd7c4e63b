-- Every transaction is whole over logs that a crash may leave.
use Rattle.std.specs.List.{list_any, list_all}
use Rattle.std.proofs.Common.{◌≡◌, ◌≢◌, inl, inr, ℕ, zero, suc, ◌<◌, ◌≤◌, Bool, true, false, not, cond, ◌&&◌, ◌||◌, nat_eq, nat_lt, nat_le, List, []}
use Rattle.std.proofs.Common.{◌∷◌, length, Option, Some, None, slice_get, refl, sym, ap, subst, ◌∙◌, arith}
use Rattle.std.proofs.lemmas.Bool.{cases_eq, and_from, and_parts}
use Rattle.std.proofs.lemmas.Bool.Decides.{nat_tests}
use Rattle.units.specs.Lists.{gather, has, head, when}
use Rattle.units.specs.Ids.{Id, same_id}
use Rattle.units.proofs.IdLaws.{same_id-is, same_id-refl}
use Rattle.record.specs.History.{by_shard}
use Rattle.record.specs.Records.{Ended, as_ended, as_prepared, is_aborted}
use Rattle.record.specs.Whole.{is_whole, is_whole_by, Decision, decisions, outcomes_fit, turns_down, fits_decision, parts_exist, promises_of, is_promise_for}
use Rattle.record.specs.declared.record.Prepared.{Prepared}
use Rattle.record.specs.declared.record.Record.{Record}
use Rattle.law.specs.Among.{IsAmong}
use Rattle.law.specs.Evidence.{Scene, Holds}
use Rattle.law.specs.Left.{AreLeft}
use Rattle.law.proofs.Members.{some_passes}
use Rattle.law.proofs.Recorded.{among_keep, promise_among, outcome_among, is_aborted_among}
use Rattle.law.proofs.Logged.{AreLogged}
use Rattle.law.proofs.Homes.{log_in, log_logged, decision_home, not_both, no_aborted, outcome_decided, outcome_stamp, promised, promise_of_part, is_orderly}
use Rattle.law.proofs.Decisions.{decision_stands, left_logged, stands_decided, one_decided, one_promise_in, log_of_number, log_in-is, there_in}
use Rattle.law.proofs.Picked.{each_of, keep_among, kept_passes, gather_among, AtMostOne, is_none, is_single, some_same}

place_within : {A : Type 0} (xs : List A) (n : ℕ) (x : A) → slice_get xs n ≡ Some x → n < length xs
place_within [] n x e = cc
place_within (y ∷ ys) zero x e = omega arith
place_within (y ∷ ys) (suc n) x e = let ih = place_within ys n x e in omega arith

pub has_head : (xs : List ℕ) (n : ℕ) → head xs ≡ Some n → has xs n ≡ true
has_head [] n e = cc
has_head (x ∷ xs) n e = let same : x ≡ n = some_same x n e in grind (arith, nat_tests)

pub when_head : (xs : List ℕ) (n : ℕ) → head xs ≡ Some n → when (nat_eq n) (head xs) ≡ true
when_head xs n e = ap (when (nat_eq n)) e ∙ same_number n
  where
    same_number : (m : ℕ) → nat_eq m m ≡ true
    same_number m = grind (arith, nat_tests)

module _ (sc : Scene) (h : Holds sc) (logs : List (List Record)) (left : AreLeft sc logs) (t : Id) where
  -- each outcome at a timestamp passes a test
  ends : (log : List Record) → AreLogged log → (fits : ℕ → Bool) → ((s : ℕ) → IsAmong log (Record.Outcome t (Some s)) → fits s ≡ true)
      → outcomes_fit log t fits ≡ true
  ends log logged fits each_one = each_of _ (gather as_ended log) (λ e k. by_outcome e.txn (same_id t e.txn) refl e.outcome (outcome_among log logged e k))
    where
      by_outcome : (u : Id) (b : Bool) → same_id t u ≡ b → (o : Option ℕ) → IsAmong log (Record.Outcome u o) →
          (not b || elim o as (λ x. Bool) [ None ↦ true | Some s ↦ fits s ]) ≡ true
      by_outcome u false same o k = refl
      by_outcome u true same None k = refl
      by_outcome u true same (Some s) k = each_one s (subst (λ v. IsAmong log (Record.Outcome v (Some s))) (sym (same_id-is t u same)) k)

  -- ---- no decision

  undecided : decisions logs t ≡ [] → list_all (λ l. outcomes_fit l t (λ s. false)) logs ≡ true
  undecided none = each_of_places (λ n log there. ends log (left_logged sc h logs left n log there) (λ s. false)
      (λ s k. absurd (no_decision n s (subst (λ l. IsAmong l (Record.Outcome t (Some s))) (sym (log_in-is logs n log there)) k))))
    where
      no_decision : (n s : ℕ) → IsAmong (log_in logs n) (Record.Outcome t (Some s)) → ⊥
      no_decision n s k =
          let d = outcome_decided sc h logs left n t s k in
          subst (λ ds. IsAmong ds (record { shard = d.shard; commit = d.commit })) none
          (subst (λ u. IsAmong (decisions logs u) (record { shard = d.shard; commit = d.commit })) d.named (stands_decided logs d.shard d.commit d.among))

      each_place : (ls : List (List Record)) (test : List Record → Bool) → ((n : ℕ) (log : List Record) → slice_get ls n ≡ Some log →
          test log ≡ true) → list_all test ls ≡ true
      each_place [] test k = refl
      each_place (l ∷ ls) test k = and_from (test l) (list_all test ls) (k 0 l refl) (each_place ls test (λ n log e. k (suc n) log e))

      each_of_places : ((n : ℕ) (log : List Record) → slice_get logs n ≡ Some log → outcomes_fit log t (λ s. false) ≡ true) →
          list_all (λ l. outcomes_fit l t (λ s. false)) logs ≡ true
      each_of_places k = each_place logs (λ l. outcomes_fit l t (λ s. false)) k

  -- ---- one decision

  module _ (d : Decision) (stands : IsAmong (log_in logs d.shard) (Record.Commit d.commit)) (named : d.commit.txn ≡ t) where
    parts_are_there : parts_exist logs d ≡ true
    parts_are_there = each_of (λ n. nat_lt n (length logs)) d.commit.parts (λ n k. below n (part_has d.commit.parts n k))
      where
        part_has : (ps : List ℕ) (n : ℕ) → IsAmong ps n → has ps n ≡ true
        part_has [] n k = absurd k
        part_has (p ∷ ps) n (inl same) = grind (arith, nat_tests)
        part_has (p ∷ ps) n (inr later) = let ih = part_has ps n later in grind (arith, nat_tests)

        less : (n m : ℕ) → n < m → nat_lt n m ≡ true
        less n m k = grind (arith, nat_tests)

        below : (n : ℕ) → has d.commit.parts n ≡ true → nat_lt n (length logs) ≡ true
        below n part = elim (cases_eq n d.shard) [
          | inl same ↦ less n (length logs) (place_within logs n _ (subst (λ m. slice_get logs m ≡ Some (log_in logs m)) (sym same)
              (there_in logs d.shard (Record.Commit d.commit) stands)))
          | inr other ↦ less n (length logs) (place_within logs n _ (there_in logs n _ (promised sc h logs left d.shard n d.commit stands part other).among))
        ]

    of_this : (m : ℕ) (o : Option ℕ) → IsAmong (log_in logs m) (Record.Outcome t o) → IsAmong (log_in logs m) (Record.Outcome d.commit.txn o)
    of_this m o k = subst (λ u. IsAmong (log_in logs m) (Record.Outcome u o)) (sym named) k

    not_turned : (m : ℕ) → not (turns_down (log_in logs m) t) ≡ true
    not_turned m = by_parts (is_aborted (log_in logs m) t) refl (list_any _ (gather as_ended (log_in logs m))) refl
      where
        aborted_outcome : (e : Ended) → IsAmong (log_in logs m) (Record.Outcome e.txn e.outcome) →
            (same_id e.txn t && not (when (λ s. true) e.outcome)) ≡ true → ⊥
        aborted_outcome e k passes = by_outcome e.outcome (subst (λ u. IsAmong (log_in logs m) (Record.Outcome u e.outcome))
            (same_id-is e.txn t (and_parts (same_id e.txn t) (not (when (λ s. true) e.outcome)) passes).0) k)
            (and_parts (same_id e.txn t) (not (when (λ s. true) e.outcome)) passes).1
          where
            by_outcome : (o : Option ℕ) → IsAmong (log_in logs m) (Record.Outcome t o) → not (when (λ s. true) o) ≡ true → ⊥
            by_outcome None j e2 = no_aborted sc h logs left d.shard m d.commit stands (of_this m None j)
            by_outcome (Some s) j e2 = cc

        by_parts : (a : Bool) → is_aborted (log_in logs m) t ≡ a → (b : Bool) →
            list_any (λ (e : Ended). same_id e.txn t && not (when (λ s. true) e.outcome)) (gather as_ended (log_in logs m)) ≡ b → not (a || b) ≡ true
        by_parts true e b k = absurd (not_both sc h logs left d.shard m d.commit stands (subst (λ u. IsAmong (log_in logs m) (Record.Abort u))
            (sym named) (is_aborted_among (log_in logs m) t e)))
        by_parts false e true k =
            let p = some_passes (gather as_ended (log_in logs m)) (λ (x : Ended). same_id x.txn t && not (when (λ s. true) x.outcome)) k in
            absurd (aborted_outcome p.member (outcome_among (log_in logs m) (log_logged sc h logs left m) p.member p.among) p.passes)
        by_parts false e false k = refl

    ends_here : (m : ℕ) → outcomes_fit (log_in logs m) t (nat_eq d.commit.at) ≡ true
    ends_here m = ends (log_in logs m) (log_logged sc h logs left m) (nat_eq d.commit.at)
        (λ s k. same_stamp s (outcome_stamp sc h logs left d.shard m d.commit s stands
        (of_this m (Some s) k)))
      where
        same_stamp : (s : ℕ) → d.commit.at ≡ s → nat_eq d.commit.at s ≡ true
        same_stamp s e = grind (arith, nat_tests)

    -- the promises of another part, and of a shard that takes no part
    promise_there : (m : ℕ) → has d.commit.parts m ≡ true → m ≢ d.shard → is_promise_for d (promises_of (log_in logs m) t) ≡ true
    promise_there m part other =
        let p = promised sc h logs left d.shard m d.commit stands part other in
        let mine : same_id p.promise.txn t ≡ true = subst (λ u. same_id u t ≡ true) (sym (p.named ∙ named)) (same_id-refl t) in
        let among : IsAmong (promises_of (log_in logs m) t) p.promise =
        keep_among (λ (x : Prepared). same_id x.txn t) (gather as_prepared (log_in logs m)) p.promise
        (gather_among as_prepared (log_in logs m) (Record.Prepare p.promise) p.promise p.among refl) mine in
        let single = is_single (promises_of (log_in logs m) t) p.promise (one_promise_in (log_in logs m) t
        (is_orderly sc h logs left m (Record.Prepare p.promise) p.among)) among in
        subst (λ l. is_promise_for d l ≡ true) (sym single) (fits_for p.promise p.by p.below)
      where
        fits_for : (p : Prepared) → p.coordinator ≡ d.shard → p.at ≤ d.commit.at → (nat_eq p.coordinator d.shard && nat_le p.at d.commit.at) ≡ true
        fits_for p by below = grind (arith, nat_tests)

    no_promise : (m : ℕ) → has d.commit.parts m ≡ false → nat_eq (length (promises_of (log_in logs m) t)) 0 ≡ true
    no_promise m apart =
        ap (λ (l : List Prepared). nat_eq (length l) 0) (is_none (promises_of (log_in logs m) t) (λ p k. no_part p k))
      where
        no_part : (p : Prepared) → IsAmong (promises_of (log_in logs m) t) p → ⊥
        no_part p k =
            let there = promise_among (log_in logs m) (log_logged sc h logs left m) p
            (among_keep (λ (x : Prepared). same_id x.txn t) (gather as_prepared (log_in logs m)) p k) in
            let mine = same_id-is p.txn t (kept_passes (λ (x : Prepared). same_id x.txn t) (gather as_prepared (log_in logs m)) p k) in
            let part = promise_of_part sc h logs left d.shard m d.commit p stands there (mine ∙ sym named) in
            cc

    fits_log : (m : ℕ) → fits_decision t d (m, log_in logs m) ≡ true
    fits_log m = and_from _ _ (and_from _ _ (not_turned m) (ends_here m)) (by_place (nat_eq m d.shard) refl (has d.commit.parts m) refl)
      where
        by_place : (b : Bool) → nat_eq m d.shard ≡ b → (c : Bool) → has d.commit.parts m ≡ c →
            cond b true (cond c (is_promise_for d (promises_of (log_in logs m) t)) (nat_eq (length (promises_of (log_in logs m) t)) 0)) ≡ true
        by_place true e c k = refl
        by_place false e true k = promise_there m k (λ same. apart same e)
          where
            apart : m ≡ d.shard → nat_eq m d.shard ≡ false → ⊥
            apart same not_same = grind (arith, nat_tests)
        by_place false e false k = no_promise m k

    decided_whole : (when (nat_eq d.shard) (head d.commit.parts) && parts_exist logs d && list_all (fits_decision t d) (by_shard logs)) ≡ true
    decided_whole = and_from _ _ (and_from _ _ (when_head d.commit.parts d.shard (decision_home sc h logs left d.shard d.commit stands).1) parts_are_there)
        (each_of (fits_decision t d) (by_shard logs) (λ p k. here p (log_in-is logs p.0 p.1 (log_of_number logs p k))))
      where
        here : (p : ℕ × List Record) → log_in logs p.0 ≡ p.1 → fits_decision t d p ≡ true
        here p e = subst (λ l. fits_decision t d (p.0, l) ≡ true) e (fits_log p.0)

  by_decisions : (ds : List Decision) → decisions logs t ≡ ds → is_whole_by logs t ds ≡ true
  by_decisions [] e = undecided e
  by_decisions (d ∷ []) e =
      let stands = decision_stands logs (left_logged sc h logs left) t d (subst (λ ds. IsAmong ds d) (sym e) (inl refl)) in
      decided_whole d stands.among stands.named
  by_decisions (d ∷ x ∷ rest) e = absurd (subst AtMostOne e (one_decided sc h logs left t))

  pub whole : is_whole t logs ≡ true
  unfolding is_whole
  whole = by_decisions (decisions logs t) refl
