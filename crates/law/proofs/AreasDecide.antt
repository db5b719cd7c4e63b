-- Each decision that an area has is one that its shard logged: with its id, its timestamp and its parts.
use Rattle.std.proofs.Common.{◌≡◌, ◌⊎◌, inl, inr, ℕ, Bool, true, false, not, List, [], ◌∷◌, ◌++◌, Option, Some, None, refl, sym, ap, subst, ◌∙◌, map}
use Rattle.units.specs.Ids.{Id}
use Rattle.units.specs.Lists.{gather}
use Rattle.units.proofs.Folds.{gather_append}
use Rattle.record.specs.Facts.{TxnStatus, facts_of}
use Rattle.record.specs.Records.{Ended, Status, Unrecorded, StandsPrepared, StandsDecided, HasAborted, HasSettled, HasClosed, as_committed, committed_of}
use Rattle.record.specs.Records.{ended_of}
use Rattle.record.specs.Records.{ids_of, is_aborted, is_below, prepared_of, retired_of, settled_decision, status_by, status_written}
use Rattle.record.specs.declared.record.Committed.{Committed}
use Rattle.record.specs.declared.record.Prepared.{Prepared}
use Rattle.record.specs.declared.record.Record.{Record}
use Rattle.record.specs.declared.record.Record.TheVariants.{Commit, Settled, Version}
use Rattle.ledger.specs.Turned.{ended_item, retired_item, standing_item, turned, versions_held}
use Rattle.world.proofs.StepKinds.{is_logged}
use Rattle.law.specs.Among.{IsAmong}
use Rattle.law.proofs.Logged.{AreLogged}
use Rattle.law.proofs.Members.{among_cases, among_left, among_right}
use Rattle.law.proofs.Picked.{among_map, some_same}
use Rattle.law.proofs.Recorded.{among_gather, among_keep, commit_is}
use Rattle.law.proofs.Resolved.{committed_is}

-- a log has the decision of which this is one, or what is left of one
pub record HasSame (log : List Record) (c : Committed) : Type 0 where
  pub commit : Committed
  pub among : IsAmong log (Commit commit)
  pub named : commit.txn ≡ c.txn
  pub stamp : commit.at ≡ c.at
  pub parts : commit.parts ≡ c.parts

-- the decisions of other records are all of the log
abbrev pub DecidesNoMore : List Record → List Record → Type 0
DecidesNoMore log other = (c : Committed) → IsAmong (gather as_committed other) c → HasSame log c

-- one more record in both
pub more_decides : (log other : List Record) (r : Record) → is_logged r ≡ true → DecidesNoMore log other → DecidesNoMore (log ++ r ∷ []) (other ++ r ∷ [])
more_decides log other r kind old c h =
    elim (among_cases (gather as_committed other) (gather as_committed (r ∷ [])) c (subst (λ l. IsAmong l c) (gather_append as_committed other (r ∷ [])) h)) [
      | inl before ↦ (let d = old c before in
          record { commit = d.commit; among = among_left log (r ∷ []) (Commit d.commit) d.among; named = d.named; stamp = d.stamp; parts = d.parts })
      | inr new ↦ here new
    ]
  where
    here : IsAmong (gather as_committed (r ∷ [])) c → HasSame (log ++ r ∷ []) c
    here new = by_source (among_gather as_committed (r ∷ []) c new).from (among_gather as_committed (r ∷ []) c new).among
        (among_gather as_committed (r ∷ []) c new).gives
      where
        by_source : (q : Record) → (r ≡ q) ⊎ ⊥ → as_committed q ≡ Some c → HasSame (log ++ r ∷ []) c
        by_source q (inl same) gives = record {
          commit = c;
          among = subst (IsAmong (log ++ r ∷ [])) (commit_is r c kind (ap as_committed same ∙ gives)) (among_right log (r ∷ []) r (inl refl));
          named = refl;
          stamp = refl;
          parts = refl;
        }
        by_source q (inr none) gives = absurd none

-- ---- a renewed log

module _ (log : List Record) (logged : AreLogged log) where
  -- what a status says of a decision
  settled_same : (t : Id) (at : ℕ) (ps : List ℕ) → status_written log t ≡ HasSettled at ps → HasSame log (settled_decision t at ps)
  unfolding status_written
  settled_same t at ps h = by_parts (is_aborted log t) (committed_of log t) refl (prepared_of log t) (ended_of log t) h
    where
      same_of : (d : Committed) → HasSettled d.at d.parts ≡ HasSettled at ps → (d.at ≡ at) × (d.parts ≡ ps)
      same_of d e = (cc, cc)

      by_parts : (a : Bool) (c : Option Committed) → committed_of log t ≡ c → (p : Option Prepared) (e : Option Ended) →
          status_by a c p e ≡ HasSettled at ps → HasSame log (settled_decision t at ps)
      by_parts true c hc p e k = cc
      by_parts false (Some d) hc p (Some e) k =
          let i = committed_is log logged t d hc in
          let same = same_of d k in
          record { commit = d; among = i.0; named = i.1; stamp = same.0; parts = same.1 }
      by_parts false (Some d) hc p None k = cc
      by_parts false None hc (Some p) (Some e) k = cc
      by_parts false None hc (Some p) None k = cc
      by_parts false None hc None e k = cc

  decided_same : (t : Id) (c : Committed) → status_written log t ≡ StandsDecided c → HasSame log c
  unfolding status_written
  decided_same t c h = by_parts (is_aborted log t) (committed_of log t) refl (prepared_of log t) (ended_of log t) h
    where
      same_of : (d : Committed) → StandsDecided d ≡ StandsDecided c → d ≡ c
      same_of d e = cc

      by_parts : (a : Bool) (o : Option Committed) → committed_of log t ≡ o → (p : Option Prepared) (e : Option Ended) →
          status_by a o p e ≡ StandsDecided c → HasSame log c
      by_parts true o ho p e k = cc
      by_parts false (Some d) ho p (Some e) k = cc
      by_parts false (Some d) ho p None k =
          let i = committed_is log logged t d ho in
          record { commit = c; among = subst (λ x. IsAmong log (Commit x)) (same_of d k) i.0; named = refl; stamp = refl; parts = refl }
      by_parts false None ho (Some p) (Some e) k = cc
      by_parts false None ho (Some p) None k = cc
      by_parts false None ho None e k = cc

  -- an entry has the status that was written of its id
  entry_status : (e : TxnStatus) → IsAmong (facts_of log).entries e → status_written log e.txn ≡ e.status
  unfolding facts_of
  entry_status e h =
      let there = among_keep (λ (x : TxnStatus). not_below x) (map written (ids_of log)) e h in
      let m = among_map written (ids_of log) e there in
      subst (λ (x : TxnStatus). status_written log x.txn ≡ x.status) m.is refl
    where
      not_below : TxnStatus → Bool
      not_below x = not (is_below (retired_of log) x.txn)

      written : Id → TxnStatus
      written t = record { txn = t; status = status_written log t }

  by_ended : (e : TxnStatus) (r : Record) (c : Committed) → status_written log e.txn ≡ e.status → ended_item e ≡ Some r → as_committed r ≡ Some c →
      HasSame log c
  by_ended e r c is item gives = by_status e.status is item
    where
      settled : (at : ℕ) (ps : List ℕ) → status_written log e.txn ≡ HasSettled at ps → Settled e.txn at ps ≡ r → HasSame log c
      settled at ps h same =
          subst (HasSame log) (some_same (settled_decision e.txn at ps) c (ap as_committed same ∙ gives)) (settled_same e.txn at ps h)

      none_of : (q : Record) → as_committed q ≡ None → q ≡ r → ⊥
      none_of q none same = let z : None ≡ Some c = sym none ∙ ap as_committed same ∙ gives in cc

      by_status : (s : Status) → status_written log e.txn ≡ s → ended_item (record { txn = e.txn; status = s }) ≡ Some r → HasSame log c
      by_status (HasSettled at ps) h k = settled at ps h (some_same (Settled e.txn at ps) r k)
      by_status (HasAborted) h k = absurd (none_of (Record.Abort e.txn) refl (some_same (Record.Abort e.txn) r k))
      by_status (HasClosed n o) h k = absurd (none_of (Record.Closed e.txn n o) refl (some_same (Record.Closed e.txn n o) r k))
      by_status Unrecorded h k = cc
      by_status (StandsPrepared p) h k = cc
      by_status (StandsDecided d) h k = cc

  by_standing : (e : TxnStatus) (r : Record) (c : Committed) → status_written log e.txn ≡ e.status → standing_item e ≡ Some r →
      as_committed r ≡ Some c → HasSame log c
  by_standing e r c is item gives = by_status e.status is item
    where
      by_status : (s : Status) → status_written log e.txn ≡ s → standing_item (record { txn = e.txn; status = s }) ≡ Some r → HasSame log c
      by_status (StandsDecided d) h k =
          subst (HasSame log) (some_same d c (ap as_committed (some_same (Commit d) r k) ∙ gives)) (decided_same e.txn d h)
      by_status (StandsPrepared p) h k =
          let z : None ≡ Some c = ap as_committed (some_same (Record.Prepare p) r k) ∙ gives in cc
      by_status Unrecorded h k = cc
      by_status HasAborted h k = cc
      by_status (HasSettled at ps) h k = cc
      by_status (HasClosed n o) h k = cc

  by_place : (r : Record) (c : Committed) → IsAmong (turned (facts_of log)) r → as_committed r ≡ Some c → HasSame log c
  unfolding turned
  by_place r c (inl same) gives = let z : None ≡ Some c = ap as_committed same ∙ gives in cc
  by_place r c (inr behind) gives =
      elim (among_cases (map Version (versions_held (facts_of log))) (retired_item (facts_of log).retired
      ++ (gather ended_item (facts_of log).entries ++ gather standing_item (facts_of log).entries)) r behind) [
        | inl version ↦ absurd (no_version version)
        | inr later ↦ elim (among_cases (retired_item (facts_of log).retired)
            (gather ended_item (facts_of log).entries ++ gather standing_item (facts_of log).entries) r later) [
              | inl item ↦ absurd (no_item (facts_of log).retired item)
              | inr told ↦ elim (among_cases (gather ended_item (facts_of log).entries) (gather standing_item (facts_of log).entries) r told) [
                | inl ended ↦ of_ended ended
                | inr standing ↦ of_standing standing
              ]
            ]
      ]
    where
      no_version : IsAmong (map Version (versions_held (facts_of log))) r → ⊥
      no_version h = let m = among_map Version (versions_held (facts_of log)) r h in let z : None ≡ Some c = ap as_committed m.is ∙ gives in cc

      no_item : (o : Option Id) → IsAmong (retired_item o) r → ⊥
      no_item None h = h
      no_item (Some below) (inl same) = let z : None ≡ Some c = ap as_committed same ∙ gives in cc
      no_item (Some below) (inr none) = none

      of_ended : IsAmong (gather ended_item (facts_of log).entries) r → HasSame log c
      of_ended h =
          let s = among_gather ended_item (facts_of log).entries r h in by_ended s.from r c (entry_status s.from s.among) s.gives gives

      of_standing : IsAmong (gather standing_item (facts_of log).entries) r → HasSame log c
      of_standing h =
          let s = among_gather standing_item (facts_of log).entries r h in by_standing s.from r c (entry_status s.from s.among) s.gives gives

  pub turned_decides : DecidesNoMore log (turned (facts_of log))
  turned_decides c h = let s = among_gather as_committed (turned (facts_of log)) c h in by_place s.from c s.among s.gives
