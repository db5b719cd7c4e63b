-- What the facts of a log say of an id rests on its records, and so do the rows that an opening finds.
use Rattle.std.proofs.Common.{◌≡◌, ◌⊎◌, inl, inr, ℕ, ◌<◌, Bool, true, false, not, cond, List, [], ◌∷◌, Option, Some, None, refl, sym, ap, subst, ◌∙◌, map}
use Rattle.std.proofs.Common.{filter}
use Rattle.units.specs.Lists.{gather, first, head}
use Rattle.units.specs.Ids.{Id, same_id}
use Rattle.units.proofs.IdLaws.{same_id-is}
use Rattle.units.proofs.ByIdLaws.{first_passes}
use Rattle.record.specs.Facts.{TxnStatus, facts_of, kept_entries, recorded}
use Rattle.record.specs.Records.{Ended, Status, Unrecorded, is_below, retired_of, status_written, StandsPrepared, StandsDecided, HasAborted, HasSettled}
use Rattle.record.specs.Records.{as_committed}
use Rattle.record.specs.Records.{as_prepared, as_aborted, as_ended, as_version, status_by, status_of, is_aborted, committed_of, prepared_of, ended_of, ids_of}
use Rattle.record.proofs.Statuses.{recorded_is}
use Rattle.units.specs.declared.writes.Install.{Install}
use Rattle.record.specs.declared.record.Committed.{Committed}
use Rattle.record.specs.declared.record.Prepared.{Prepared}
use Rattle.record.specs.declared.record.Record.{Record}
use Rattle.record.specs.declared.record.Record.TheVariants.{Prepare, Commit, Abort, Outcome, Version}
use Rattle.protocol.specs.Rows.{Row, IsPrepared, IsDecided, standing_row, rebuilt}
use Rattle.law.specs.Among.{IsAmong}
use Rattle.law.specs.Evidence.{Scene, RecordEvidence, StatusEvidence, PhaseEvidence, RowsEvidence, HasDecision, HasOutcome, WasTold}
use Rattle.world.proofs.StepKinds.{is_logged}
use Rattle.law.proofs.Logged.{AreLogged}
use Rattle.law.proofs.Members.{some_passes}
use Rattle.law.proofs.Orderly.{IsOrderly, one_decision, decided_not_promised}
use Rattle.law.proofs.Picked.{some_same}

-- ---- members of filters

pub among_keep : {A : Type 0} (test : A → Bool) (xs : List A) (x : A) → IsAmong (filter test xs) x → IsAmong xs x
among_keep test [] x h = absurd h
among_keep test (y ∷ ys) x h = by_test (test y) h (λ k. among_keep test ys x k)
  where
    by_test : (b : Bool) → IsAmong (cond b (y ∷ filter test ys) (filter test ys)) x → (IsAmong (filter test ys) x → IsAmong ys x) → (y ≡ x) ⊎ IsAmong ys x
    by_test true (inl same) rest = inl same
    by_test true (inr later) rest = inr (rest later)
    by_test false k rest = inr (rest k)

pub among_first : {A : Type 0} (test : A → Bool) (xs : List A) (x : A) → first test xs ≡ Some x → IsAmong xs x
among_first {A} test xs x e = among_keep test xs x (by_list (filter test xs) e)
  where
    by_list : (ys : List A) → head ys ≡ Some x → IsAmong ys x
    by_list [] k = cc
    by_list (y ∷ ys) k = inl (some_same y x k)

-- where a member of what was gathered comes from
pub record Source {A B : Type 0} (f : A → Option B) (xs : List A) (y : B) : Type 0 where
  pub from : A
  pub among : IsAmong xs from
  pub gives : f from ≡ Some y

pub among_gather : {A B : Type 0} (f : A → Option B) (xs : List A) (y : B) → IsAmong (gather f xs) y → Source f xs y
among_gather f [] y h = absurd h
among_gather {A} {B} f (x ∷ xs) y h = by_value (f x) refl h (λ k. among_gather f xs y k)
  where
    later : Source f xs y → Source f (x ∷ xs) y
    later s = record { from = s.from; among = inr s.among; gives = s.gives }

    by_value : (o : Option B) → f x ≡ o → IsAmong (elim o as (λ q. List B) [ None ↦ gather f xs | Some z ↦ z ∷ gather f xs ]) y →
        (IsAmong (gather f xs) y → Source f xs y) → Source f (x ∷ xs) y
    by_value None e k rest = later (rest k)
    by_value (Some z) e (inl same) rest = record { from = x; among = inl refl; gives = e ∙ ap (λ w. Some w) same }
    by_value (Some z) e (inr k) rest = later (rest k)

prepare_is : (r : Record) (p : Prepared) → is_logged r ≡ true → as_prepared r ≡ Some p → r ≡ Prepare p
prepare_is (Prepare q) p l e = cc
prepare_is _ p l e = cc

pub commit_is : (r : Record) (c : Committed) → is_logged r ≡ true → as_committed r ≡ Some c → r ≡ Commit c
commit_is (Commit q) c l e = cc
commit_is _ c l e = cc

abort_is : (r : Record) (t : Id) → as_aborted r ≡ Some t → r ≡ Abort t
abort_is (Abort q) t e = cc
abort_is _ t e = cc

outcome_is : (r : Record) (x : Ended) → is_logged r ≡ true → as_ended r ≡ Some x → r ≡ Outcome x.txn x.outcome
outcome_is (Outcome u o) x l e = let same : record { txn = u; outcome = o } ≡ x = some_same _ x e in ap (λ (y : Ended). Outcome y.txn y.outcome) same
outcome_is _ x l e = cc

module _ (log : List Record) where
  abort_among : (t : Id) → IsAmong (gather as_aborted log) t → IsAmong log (Abort t)
  abort_among t h = let s = among_gather as_aborted log t h in subst (λ r. IsAmong log r) (abort_is s.from t s.gives) s.among

  pub is_aborted_among : (t : Id) → is_aborted log t ≡ true → IsAmong log (Abort t)
  is_aborted_among t e =
      let p = some_passes (gather as_aborted log) (same_id t) e in
      abort_among t (subst (λ u. IsAmong (gather as_aborted log) u) (sym (same_id-is t p.member p.passes)) p.among)

no_version : (r : Record) (i : Install) → is_logged r ≡ true → as_version r ≡ Some i → ⊥
no_version (Version _) i l e = cc
no_version _ i l e = cc

-- a log of the kinds that steps log
module _ (log : List Record) (logged : AreLogged log) where
  pub promise_among : (p : Prepared) → IsAmong (gather as_prepared log) p → IsAmong log (Prepare p)
  promise_among p h = let s = among_gather as_prepared log p h in subst (λ r. IsAmong log r) (prepare_is s.from p (logged s.from s.among) s.gives) s.among

  pub decision_among : (c : Committed) → IsAmong (gather as_committed log) c → IsAmong log (Commit c)
  decision_among c h = let s = among_gather as_committed log c h in subst (λ r. IsAmong log r) (commit_is s.from c (logged s.from s.among) s.gives) s.among

  pub outcome_among : (x : Ended) → IsAmong (gather as_ended log) x → IsAmong log (Outcome x.txn x.outcome)
  outcome_among x h = let s = among_gather as_ended log x h in subst (λ r. IsAmong log r) (outcome_is s.from x (logged s.from s.among) s.gives) s.among

  -- it lists no version
  pub none_listed : (i : Install) → IsAmong (gather as_version log) i → ⊥
  none_listed i h = let s = among_gather as_version log i h in no_version s.from i (logged s.from s.among) s.gives

  -- what a status rests on in the log
  pub record SettledBy (t : Id) (s : ℕ) : Type 0 where
    pub commit : Committed
    pub among : IsAmong log (Commit commit)
    pub named : commit.txn ≡ t
    pub stamp : commit.at ≡ s
    pub outcome : Option ℕ
    pub ended : IsAmong log (Outcome t outcome)

  abbrev Rests : Id → Status → Type 0
  Rests t HasAborted = IsAmong log (Abort t)
  Rests t (HasSettled s ps) = SettledBy t s
  Rests t (StandsPrepared p) = IsAmong log (Prepare p)
  Rests t (StandsDecided c) = IsAmong log (Commit c)
  Rests t _ = Unit {0}

  by_parts : (t : Id) (a : Bool) (c : Option Committed) (p : Option Prepared) (e : Option Ended) → is_aborted log t ≡ a → committed_of log t ≡ c →
      prepared_of log t ≡ p → ended_of log t ≡ e → Rests t (status_by a c p e)
  by_parts t true c p e ha hc hp he = is_aborted_among log t ha
  by_parts t false (Some c) p None ha hc hp he = decision_among c (among_first (λ (x : Committed). same_id x.txn t) (gather as_committed log) c hc)
  by_parts t false None (Some p) None ha hc hp he = promise_among p (among_first (λ (x : Prepared). same_id x.txn t) (gather as_prepared log) p hp)
  by_parts t false None (Some p) (Some e) ha hc hp he = tt
  by_parts t false None None e ha hc hp he = tt
  by_parts t false (Some c) p (Some e) ha hc hp he = record {
    commit = c;
    among = decision_among c (among_first (λ (x : Committed). same_id x.txn t) (gather as_committed log) c hc);
    named = same_id-is c.txn t (first_passes (λ (x : Committed). same_id x.txn t) (gather as_committed log) c hc);
    stamp = refl;
    outcome = e.outcome;
    ended = subst (λ u. IsAmong log (Outcome u e.outcome)) (same_id-is e.txn t (first_passes (λ (x : Ended). same_id x.txn t) (gather as_ended log) e he))
        (outcome_among e (among_first (λ (x : Ended). same_id x.txn t) (gather as_ended log) e he));
  }

  rests_written : (t : Id) → Rests t (status_written log t)
  unfolding status_written
  rests_written t = by_parts t (is_aborted log t) (committed_of log t) (prepared_of log t) (ended_of log t) refl refl refl refl

  pub rests : (t : Id) → Rests t (status_of log t)
  unfolding status_of
  rests t = by_test (is_below (retired_of log) t) (rests_written t)
    where
      by_test : (b : Bool) → Rests t (status_written log t) → Rests t (cond b Unrecorded (status_written log t))
      by_test true h = tt
      by_test false h = h

  -- ---- the rows that an opening finds

  standing_evidence : (sc : Scene) (n : ℕ) (t : Id) (st : Status) (r : Row) → Rests t st → standing_row (record { txn = t; status = st }) ≡ Some r →
      PhaseEvidence sc log n r.txn r.phase
  standing_evidence sc n t (StandsPrepared p) r h e =
      let evidence : PhaseEvidence sc log n p.txn (IsPrepared p.coordinator p.at) = record { reads = p.reads; writes = p.writes; among = h } in
      subst (λ (x : Row). PhaseEvidence sc log n x.txn x.phase) (some_same _ r e) evidence
  standing_evidence sc n t (StandsDecided c) r h e =
      let evidence : PhaseEvidence sc log n c.txn (IsDecided c.at c.parts) = record { parts = c.parts; reads = c.reads; writes = c.writes; among = h } in
      subst (λ (x : Row). PhaseEvidence sc log n x.txn x.phase) (some_same _ r e) evidence
  standing_evidence sc n t _ r h e = cc

  found_rows : (sc : Scene) (n : ℕ) (retired : Option Id) (ts : List Id) →
      RowsEvidence sc log n (gather standing_row (kept_entries retired (map (λ t. record { txn = t; status = status_written log t }) ts)))
  found_rows sc n retired [] = tt
  found_rows sc n retired (t ∷ ts) = by_test (is_below retired t) (found_rows sc n retired ts)
    where
      rest : List TxnStatus
      rest = kept_entries retired (map (λ u. record { txn = u; status = status_written log u }) ts)

      by_row : (o : Option Row) → standing_row (record { txn = t; status = status_written log t }) ≡ o → RowsEvidence sc log n (gather standing_row rest) →
          RowsEvidence sc log n (elim o as (λ q. List Row) [ None ↦ gather standing_row rest | Some y ↦ y ∷ gather standing_row rest ])
      by_row None e h = h
      by_row (Some r) e h = (standing_evidence sc n t (status_written log t) r (rests_written t) e, h)

      by_test : (b : Bool) → RowsEvidence sc log n (gather standing_row rest) →
          RowsEvidence sc log n (gather standing_row (cond (not b) (record { txn = t; status = status_written log t } ∷ rest) rest))
      by_test true h = h
      by_test false h = by_row (standing_row (record { txn = t; status = status_written log t })) refl h

  pub rebuilt_rows : (sc : Scene) (n : ℕ) → RowsEvidence sc log n (rebuilt (facts_of log)).rows
  unfolding rebuilt facts_of
  rebuilt_rows sc n = found_rows sc n (retired_of log) (ids_of log)

-- ---- the statuses of an orderly log whose records rest on something

module _ (sc : Scene) (log : List Record) (n : ℕ) (orderly : IsOrderly log) (records : (r : Record) → IsAmong log r → RecordEvidence sc log n r) where
  -- a decided transaction was not told how it ended
  not_told : (c : Committed) (o : Option ℕ) → IsAmong log (Commit c) → WasTold sc.world log n c.txn o → ⊥
  not_told c o h w = decided_not_promised log orderly c _ h w.promised.among refl

  -- its outcome is at its timestamp, which has passed
  pub settled : (c : Committed) (o : Option ℕ) → IsAmong log (Commit c) → IsAmong log (Outcome c.txn o) → HasOutcome log sc.now c.txn c.at
  settled c None h ended = absurd (not_told c None h (records (Outcome c.txn None) ended))
  settled c (Some s) h ended =
      let e = records (Outcome c.txn (Some s)) ended in
      elim e.1 [
        | inl d ↦ by_stamp d e.0
        | inr w ↦ absurd (not_told c (Some s) h w)
      ]
    where
      by_stamp : HasDecision log c.txn s → s < sc.now → HasOutcome log sc.now c.txn c.at
      by_stamp d passed =
          let same : s ≡ c.at = ap (λ (x : Committed). x.at) (sym (one_decision log orderly c _ h d.among refl)) in
          subst (λ x. HasOutcome log sc.now c.txn x) same (record { decided = d; ended = ended; passed = passed })

  by_status : (t : Id) (st : Status) → Rests log orderly.1 t st → StatusEvidence log sc.now t st
  by_status t HasAborted h = h
  by_status t (HasSettled s ps) h =
      let e : IsAmong log (Outcome h.commit.txn h.outcome) = subst (λ u. IsAmong log (Outcome u h.outcome)) (sym h.named) h.ended in
      subst (λ u. HasOutcome log sc.now u s) h.named (subst (λ x. HasOutcome log sc.now h.commit.txn x) h.stamp (settled h.commit h.outcome h.among e))
  by_status t _ h = tt

  pub statuses : (t : Id) → StatusEvidence log sc.now t (recorded (facts_of log) t)
  statuses t = subst (λ st. StatusEvidence log sc.now t st) (sym (recorded_is log t)) (by_status t (status_of log t) (rests log orderly.1 t))
