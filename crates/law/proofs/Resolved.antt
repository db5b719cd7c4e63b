-- Every transaction stands at one timestamp on all its shards, or on none.
use Rattle.std.specs.List.{list_all}
use Rattle.std.proofs.Common.{◌≡◌, inl, inr, ℕ, suc, Bool, true, false, not, cond, ◌&&◌, nat_eq, List, [], ◌∷◌, Option, Some, None, slice_get, refl}
use Rattle.std.proofs.Common.{sym, ap, subst, ◌∙◌, map, arith, filter}
use Rattle.std.proofs.lemmas.Bool.{cases_eq}
use Rattle.std.proofs.lemmas.Bool.Decides.{nat_tests}
use Rattle.units.specs.Lists.{gather, has, head, when}
use Rattle.units.specs.Ids.{Id, same_id}
use Rattle.units.proofs.IdLaws.{same_id-is, same_id-refl}
use Rattle.units.proofs.ByIdLaws.{first_passes}
use Rattle.units.proofs.Folds.{is_there, there_first}
use Rattle.record.specs.History.{by_shard}
use Rattle.record.specs.Records.{Ended, as_ended, as_prepared, as_committed, committed_of, prepared_of, ended_of}
use Rattle.record.specs.Whole.{Decision, decisions, stands_at, stands_by, coordinator_says, resolves_by, Resolves}
use Rattle.record.specs.declared.record.Committed.{Committed}
use Rattle.record.specs.declared.record.Prepared.{Prepared}
use Rattle.record.specs.declared.record.Record.{Record}
use Rattle.law.specs.Among.{IsAmong}
use Rattle.law.specs.Evidence.{Scene, Holds, HasDecision, WasTold}
use Rattle.law.specs.Left.{AreLeft}
use Rattle.law.proofs.Recorded.{among_first, promise_among, decision_among, outcome_among}
use Rattle.law.proofs.Logged.{AreLogged}
use Rattle.law.proofs.Homes.{log_in, log_logged, evidence, decision_home, no_aborted, outcome_decided, outcome_stamp, one_place, promised, promise_of_part}
use Rattle.law.proofs.Homes.{promise_home, one_home, TakesPart, ClosesOver}
use Rattle.law.proofs.AllWhole.{has_head}
use Rattle.law.proofs.Decisions.{decision_stands, left_logged, stands_decided, one_decided, log_of_number, log_in-is}
use Rattle.law.proofs.Picked.{each_of, any_of, gather_among, AtMostOne}

-- ---- what a log holds of an id

module _ (log : List Record) (logged : AreLogged log) (t : Id) where
  pub committed_is : (c : Committed) → committed_of log t ≡ Some c → IsAmong log (Record.Commit c) × (c.txn ≡ t)
  committed_is c e = (
    decision_among log logged c (among_first (λ (x : Committed). same_id x.txn t) (gather as_committed log) c e),
    same_id-is c.txn t (first_passes (λ (x : Committed). same_id x.txn t) (gather as_committed log) c e),
  )

  pub prepared_is : (p : Prepared) → prepared_of log t ≡ Some p → IsAmong log (Record.Prepare p) × (p.txn ≡ t)
  prepared_is p e = (
    promise_among log logged p (among_first (λ (x : Prepared). same_id x.txn t) (gather as_prepared log) p e),
    same_id-is p.txn t (first_passes (λ (x : Prepared). same_id x.txn t) (gather as_prepared log) p e),
  )

  ended_is : (x : Ended) → ended_of log t ≡ Some x → IsAmong log (Record.Outcome t x.outcome)
  ended_is x e =
      subst (λ u. IsAmong log (Record.Outcome u x.outcome)) (same_id-is x.txn t (first_passes (λ (y : Ended). same_id y.txn t) (gather as_ended log) x e))
      (outcome_among log logged x (among_first (λ (y : Ended). same_id y.txn t) (gather as_ended log) x e))

module _ (log : List Record) (t : Id) where
  none_there : {A : Type 0} (o : Option A) → o ≡ None → is_there o ≡ true → ⊥
  none_there None e k = cc
  none_there (Some x) e k = cc

  pub not_committed : (c : Committed) → committed_of log t ≡ None → IsAmong log (Record.Commit c) → c.txn ≡ t → ⊥
  not_committed c e k named =
      none_there (committed_of log t) e
      (there_first (λ (x : Committed). same_id x.txn t) (gather as_committed log)
      ∙ any_of (λ (x : Committed). same_id x.txn t) (gather as_committed log) c (gather_among as_committed log (Record.Commit c) c k refl)
      (subst (λ u. same_id u t ≡ true) (sym named) (same_id-refl t)))

  pub not_prepared : (p : Prepared) → prepared_of log t ≡ None → IsAmong log (Record.Prepare p) → p.txn ≡ t → ⊥
  not_prepared p e k named =
      none_there (prepared_of log t) e
      (there_first (λ (x : Prepared). same_id x.txn t) (gather as_prepared log)
      ∙ any_of (λ (x : Prepared). same_id x.txn t) (gather as_prepared log) p (gather_among as_prepared log (Record.Prepare p) p k refl)
      (subst (λ u. same_id u t ≡ true) (sym named) (same_id-refl t)))

module _ (sc : Scene) (h : Holds sc) (logs : List (List Record)) (left : AreLeft sc logs) (t : Id) where
  -- ---- without a decision it stands nowhere

  module _ (none : decisions logs t ≡ []) where
    no_commit : (n : ℕ) (c : Committed) → IsAmong (log_in logs n) (Record.Commit c) → c.txn ≡ t → ⊥
    no_commit n c k named =
        subst (λ ds. IsAmong ds (record { shard = n; commit = c })) none
        (subst (λ u. IsAmong (decisions logs u) (record { shard = n; commit = c })) named (stands_decided logs n c k))

    nowhere : (n : ℕ) → not (when (λ s. true) (stands_at logs (log_in logs n) t)) ≡ true
    unfolding stands_at
    nowhere n = by_parts (committed_of (log_in logs n) t) refl (ended_of (log_in logs n) t) refl (prepared_of (log_in logs n) t) refl
      where
        by_parts : (c : Option Committed) → committed_of (log_in logs n) t ≡ c → (e : Option Ended) → ended_of (log_in logs n) t ≡ e →
            (p : Option Prepared) → prepared_of (log_in logs n) t ≡ p →
            not (when (λ s. true) (stands_by logs c e p)) ≡ true
        by_parts (Some c) hc e he p hp = let k = committed_is (log_in logs n) (log_logged sc h logs left n) t c hc in absurd (no_commit n c k.0 k.1)
        by_parts None hc (Some x) he p hp = by_outcome x.outcome (ended_is (log_in logs n) (log_logged sc h logs left n) t x he)
          where
            by_outcome : (o : Option ℕ) → IsAmong (log_in logs n) (Record.Outcome t o) → not (when (λ s. true) o) ≡ true
            by_outcome None k = refl
            by_outcome (Some s) k = let d = outcome_decided sc h logs left n t s k in absurd (no_commit d.shard d.commit d.among d.named)
        by_parts None hc None he (Some p) hp =
            let k = prepared_is (log_in logs n) (log_logged sc h logs left n) t p hp in
            subst (λ (ds : List Decision). not (when (λ s. true)
            (head (map (λ (d : Decision). d.commit.at) (filter (λ (d : Decision). nat_eq d.shard p.coordinator) ds)))) ≡ true)
            (sym (ap (decisions logs) k.1 ∙ none)) refl
        by_parts None hc None he None hp = refl

  -- ---- with one it stands at its timestamp at each part, and nowhere else

  module _ (d : Decision) (only : decisions logs t ≡ d ∷ []) (stands : IsAmong (log_in logs d.shard) (Record.Commit d.commit)) (named : d.commit.txn ≡ t) where
    same_number : (n m : ℕ) → n ≡ m → nat_eq n m ≡ true
    same_number n m e = grind (arith, nat_tests)

    of_this : (m : ℕ) (o : Option ℕ) → IsAmong (log_in logs m) (Record.Outcome t o) → IsAmong (log_in logs m) (Record.Outcome d.commit.txn o)
    of_this m o k = subst (λ u. IsAmong (log_in logs m) (Record.Outcome u o)) (sym named) k

    -- the coordinator of a promise is the decision's shard
    by_coordinator : (m : ℕ) (p : Prepared) → IsAmong (log_in logs m) (Record.Prepare p) → p.txn ≡ t → coordinator_says logs p ≡ Some d.commit.at
    by_coordinator m p k mine =
        let home : TakesPart sc.world p.txn p.coordinator m = promise_home sc h logs left m p k in
        let a = decision_home sc h logs left d.shard d.commit stands in
        let same : d.shard ≡ p.coordinator = one_home sc h logs left t d.shard p.coordinator d.commit.parts home.parts
        (subst (λ u. ClosesOver sc.world u d.commit.parts) named a.0) a.1 (subst (λ u. ClosesOver sc.world u home.parts) mine home.over) home.least in
        subst (λ (ds : List Decision). head (map (λ (x : Decision). x.commit.at) (filter (λ (x : Decision). nat_eq x.shard p.coordinator) ds)) ≡
        Some d.commit.at)
        (sym (ap (decisions logs) mine ∙ only))
        (ap (λ b. head (map (λ (x : Decision). x.commit.at) (cond b (d ∷ []) []))) (same_number d.shard p.coordinator same))

    at_parts : (m : ℕ) → has d.commit.parts m ≡ true → when (nat_eq d.commit.at) (stands_at logs (log_in logs m) t) ≡ true
    unfolding stands_at
    at_parts m part = by_parts (committed_of (log_in logs m) t) refl (ended_of (log_in logs m) t) refl (prepared_of (log_in logs m) t) refl
      where
        by_parts : (c : Option Committed) → committed_of (log_in logs m) t ≡ c → (e : Option Ended) → ended_of (log_in logs m) t ≡ e →
            (p : Option Prepared) → prepared_of (log_in logs m) t ≡ p →
            when (nat_eq d.commit.at) (stands_by logs c e p) ≡ true
        by_parts (Some c) hc e he p hp =
            let k = committed_is (log_in logs m) (log_logged sc h logs left m) t c hc in
            same_number d.commit.at c.at (ap (λ (x : Committed). x.at) (one_place sc h logs left d.shard m d.commit c stands k.0 (k.1 ∙ sym named)).1)
        by_parts None hc (Some x) he p hp = by_outcome x.outcome (ended_is (log_in logs m) (log_logged sc h logs left m) t x he)
          where
            by_outcome : (o : Option ℕ) → IsAmong (log_in logs m) (Record.Outcome t o) → when (nat_eq d.commit.at) o ≡ true
            by_outcome None k = absurd (no_aborted sc h logs left d.shard m d.commit stands (of_this m None k))
            by_outcome (Some s) k = same_number d.commit.at s (outcome_stamp sc h logs left d.shard m d.commit s stands (of_this m (Some s) k))
        by_parts None hc None he (Some p) hp =
            let k = prepared_is (log_in logs m) (log_logged sc h logs left m) t p hp in
            subst (λ o. when (nat_eq d.commit.at) o ≡ true) (sym (by_coordinator m p k.0 k.1)) (same_number d.commit.at d.commit.at refl)
        by_parts None hc None he None hp = elim (cases_eq m d.shard) [
          | inl same ↦ absurd (not_committed (log_in logs m) t d.commit hc (subst (λ j. IsAmong (log_in logs j) (Record.Commit d.commit))
              (sym same) stands) named)
          | inr other ↦
              let p = promised sc h logs left d.shard m d.commit stands part other in
              absurd (not_prepared (log_in logs m) t p.promise hp p.among (p.named ∙ named))
        ]

    elsewhere : (m : ℕ) → has d.commit.parts m ≡ false → not (when (λ s. true) (stands_at logs (log_in logs m) t)) ≡ true
    unfolding stands_at
    elsewhere m apart = by_parts (committed_of (log_in logs m) t) refl (ended_of (log_in logs m) t) refl (prepared_of (log_in logs m) t) refl
      where
        not_here : (c : Committed) → IsAmong (log_in logs m) (Record.Commit c) → c.txn ≡ t → ⊥
        not_here c k mine =
            let place = one_place sc h logs left d.shard m d.commit c stands k (mine ∙ sym named) in
            let there = has_head d.commit.parts m ((decision_home sc h logs left d.shard d.commit stands).1 ∙ ap (λ x. Some x) place.0) in
            cc

        no_promise : (p : Prepared) → IsAmong (log_in logs m) (Record.Prepare p) → p.txn ≡ t → ⊥
        no_promise p k mine = let part = promise_of_part sc h logs left d.shard m d.commit p stands k (mine ∙ sym named) in cc

        no_outcome : (s : ℕ) → IsAmong (log_in logs m) (Record.Outcome t (Some s)) → ⊥
        no_outcome s k = elim ((evidence sc h logs left m (Record.Outcome t (Some s)) k).1) [
          | inl x ↦ by_decision x
          | inr w ↦ by_word w
        ]
          where
            by_decision : HasDecision (log_in logs m) t s → ⊥
            by_decision x = not_here (record { txn = t; at = s; parts = x.parts; reads = x.reads; writes = x.writes }) x.among refl

            by_word : WasTold sc.world (log_in logs m) m t (Some s) → ⊥
            by_word w = no_promise (record {
              txn = t;
              coordinator = w.coordinator;
              at = w.stamp;
              reads = w.promised.reads;
              writes =
                  w.promised.writes;
            }) w.promised.among refl

        by_parts : (c : Option Committed) → committed_of (log_in logs m) t ≡ c → (e : Option Ended) → ended_of (log_in logs m) t ≡ e →
            (p : Option Prepared) → prepared_of (log_in logs m) t ≡ p →
            not (when (λ s. true) (stands_by logs c e p)) ≡ true
        by_parts (Some c) hc e he p hp = let k = committed_is (log_in logs m) (log_logged sc h logs left m) t c hc in absurd (not_here c k.0 k.1)
        by_parts None hc (Some x) he p hp = by_outcome x.outcome (ended_is (log_in logs m) (log_logged sc h logs left m) t x he)
          where
            by_outcome : (o : Option ℕ) → IsAmong (log_in logs m) (Record.Outcome t o) → not (when (λ s. true) o) ≡ true
            by_outcome None k = refl
            by_outcome (Some s) k = absurd (no_outcome s k)
        by_parts None hc None he (Some p) hp = let k = prepared_is (log_in logs m) (log_logged sc h logs left m) t p hp in absurd (no_promise p k.0 k.1)
        by_parts None hc None he None hp = refl

  -- ---- both

  each_place : (ls : List (List Record)) (test : List Record → Bool) → ((n : ℕ) (log : List Record) → slice_get ls n ≡ Some log → test log ≡ true) →
      list_all test ls ≡ true
  each_place [] test k = refl
  each_place (l ∷ ls) test k = ap (λ b. b && list_all test ls) (k 0 l refl) ∙ each_place ls test (λ n log e. k (suc n) log e)

  by_decisions : (ds : List Decision) → decisions logs t ≡ ds → resolves_by logs t ds
  by_decisions [] e = each_place logs (λ l. not (when (λ s. true) (stands_at logs l t))) (λ n log there. subst
      (λ l. not (when (λ s. true) (stands_at logs l t)) ≡ true) (log_in-is logs n log there) (nowhere e n))
  by_decisions (d ∷ []) e =
      let stands = decision_stands logs (left_logged sc h logs left) t d (subst (λ ds. IsAmong ds d) (sym e) (inl refl)) in
      each_of _ (by_shard logs) (λ p k. here stands.among stands.named p (log_in-is logs p.0 p.1 (log_of_number logs p k)))
    where
      by_part : IsAmong (log_in logs d.shard) (Record.Commit d.commit) → d.commit.txn ≡ t → (m : ℕ) (b : Bool) → has d.commit.parts m ≡ b →
          cond b (when (nat_eq d.commit.at) (stands_at logs (log_in logs m) t)) (not (when (λ s. true) (stands_at logs (log_in logs m) t))) ≡ true
      by_part among mine m true is = at_parts d e among mine m is
      by_part among mine m false is = elsewhere d e among mine m is

      here : IsAmong (log_in logs d.shard) (Record.Commit d.commit) → d.commit.txn ≡ t → (p : ℕ × List Record) → log_in logs p.0 ≡ p.1 →
          cond (has d.commit.parts p.0) (when (nat_eq d.commit.at) (stands_at logs p.1 t)) (not (when (λ s. true) (stands_at logs p.1 t))) ≡ true
      here among mine p is =
          subst (λ l. cond (has d.commit.parts p.0) (when (nat_eq d.commit.at) (stands_at logs l t)) (not (when (λ s. true) (stands_at logs l t))) ≡ true) is
          (by_part among mine p.0 (has d.commit.parts p.0) refl)
  by_decisions (d ∷ x ∷ rest) e = absurd (subst AtMostOne e (one_decided sc h logs left t))

  pub resolves : Resolves logs t
  resolves = by_decisions (decisions logs t) refl
