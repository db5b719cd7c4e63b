-- A decision that stands was logged.
use Rattle.std.specs.List.{list_any}
use Rattle.std.proofs.Common.{◌≡◌, ◌⊎◌, inl, inr, ⊎_elim, ℕ, Bool, true, false, ◌&&◌, ◌||◌, nat_eq, List, [], ◌∷◌, ◌++◌, fold, Option, Some}
use Rattle.std.proofs.Common.{Result, Ok, Err, cond, not, refl, sym, ap, ◌∙◌, subst, arith}
use Rattle.std.proofs.lemmas.Bool.Decides.{nat_tests}
use Rattle.std.proofs.lemmas.Bool.{or_right, or_left}
use Rattle.units.specs.Ids.{Id, older, same_id}
use Rattle.units.specs.Lists.{first}
use Rattle.units.specs.declared.fault.Fault.{Fault}
use Rattle.units.proofs.IdLaws.{same_id-is}
use Rattle.record.specs.declared.record.Committed.{Committed}
use Rattle.record.specs.declared.record.Record.{Record}
use Rattle.record.specs.Records.{Status, Unrecorded, StandsPrepared, StandsDecided, HasAborted, HasSettled, HasClosed}
use Rattle.record.specs.Facts.{Facts, TxnStatus, learn, recorded, or_unrecorded, with_status, after_outcome, no_facts}
use Rattle.record.proofs.Statuses.{first_kept}
use Rattle.shard.specs.Logs.{and_logged}
use Rattle.shard.specs.Settled.{is_commit, HasCommit}
use Rattle.shard.proofs.Agrees.{IsKnown}
use Rattle.protocol.proofs.StatusChanges.{entry_same, entry_other}

-- the entry of an id
abbrev entry_for : List TxnStatus → Id → Option TxnStatus
entry_for es t = first (λ e. same_id e.txn t) es

abbrev entry : Id → Status → TxnStatus
entry t status = record { txn = t; status = status }

-- the timestamp of a decision that stands
abbrev decided_stamp : Status → ℕ
decided_stamp (StandsDecided c) = c.at
decided_stamp _ = 0

module _ (t : Id) (c : Committed) where
  -- an entry given anew for an id
  given : (es : List TxnStatus) (u : Id) (status : Status) (same : Bool) → same_id u t ≡ same →
      or_unrecorded (entry_for (with_status es u status) t) ≡ StandsDecided c
      → ((same ≡ true) × (status ≡ StandsDecided c)) ⊎ (or_unrecorded (entry_for es t) ≡ StandsDecided c)
  given es u status true is h =
      inl (
        refl,
        sym (ap or_unrecorded (subst (λ v. entry_for (with_status es u status) v ≡ Some (entry u status)) (same_id-is u t is)
            (entry_same es u status))) ∙ h,
      )
  given es u status false is h = inr (sym (ap or_unrecorded (entry_other es u t status is)) ∙ h)

  not-decided : (status : Status) (outcome : Option ℕ) → after_outcome status outcome ≡ StandsDecided c → ⊥
  not-decided Unrecorded outcome h = cc
  not-decided (StandsPrepared p) outcome h = cc
  not-decided (StandsDecided d) outcome h = cc
  not-decided HasAborted outcome h = cc
  not-decided (HasSettled at parts) outcome h = cc
  not-decided (HasClosed n o) outcome h = cc

  same-stamp : (d : Committed) → same_id d.txn t ≡ true → StandsDecided d ≡ StandsDecided c → is_commit t c.at (Record.Commit d) ≡ true
  same-stamp d same h = stamped (same_id d.txn t) d.at c.at same (ap decided_stamp h)
    where
      stamped : (b : Bool) (m n : ℕ) → b ≡ true → m ≡ n → (b && nat_eq m n) ≡ true
      stamped b m n h e = grind (arith, nat_tests)

  -- of ids that are kept the status stays
  kept-decided : (kept : Bool) (status : Status) → cond kept status Unrecorded ≡ StandsDecided c → status ≡ StandsDecided c
  kept-decided true status h = h
  kept-decided false status h = cc

  -- one record
  learn-one : (f : Facts) (r : Record) → recorded (learn f r) t ≡ StandsDecided c → (recorded f t ≡ StandsDecided c) ⊎ (is_commit t c.at r ≡ true)
  unfolding learn
  learn-one f (Record.Settled u at parts) h =
      ⊎_elim (λ same. absurd (cc)) (λ before. inl before) (given f.entries u (HasSettled at parts) (same_id u t) refl h)
  learn-one f (Record.Closed u coordinator outcome) h =
      ⊎_elim (λ same. absurd (cc)) (λ before. inl before) (given f.entries u (HasClosed coordinator outcome) (same_id u t) refl h)
  learn-one f (Record.Prepare p) h = ⊎_elim (λ same. absurd (cc)) (λ before. inl before) (given f.entries p.txn (StandsPrepared p) (same_id p.txn t) refl h)
  learn-one f (Record.Commit d) h =
      ⊎_elim (λ same. inr (same-stamp d same.0 same.1)) (λ before. inl before) (given f.entries d.txn (StandsDecided d) (same_id d.txn t) refl h)
  learn-one f (Record.Abort u) h = ⊎_elim (λ same. absurd (cc)) (λ before. inl before) (given f.entries u HasAborted (same_id u t) refl h)
  learn-one f (Record.Outcome u outcome) h =
      ⊎_elim (λ same. absurd (not-decided (recorded f u) outcome same.1)) (λ before. inl before)
      (given f.entries u (after_outcome (recorded f u) outcome) (same_id u t) refl h)
  learn-one f (Record.Retired below) h =
      inl (kept-decided (not (older t below)) (recorded f t) (sym (first_kept (λ u. not (older u below)) t f.entries) ∙ h))
  learn-one f _ h = inl h

  -- a list of records
  learn-all : (f : Facts) (rs : List Record) → recorded (fold learn f rs) t ≡ StandsDecided c → (recorded f t ≡ StandsDecided c)
      ⊎ (list_any (is_commit t c.at) rs ≡ true)
  learn-all f [] h = inl h
  learn-all f (r ∷ rs) h =
      ⊎_elim (λ here. ⊎_elim (λ before. inl before) (λ is. inr (or_left (is_commit t c.at r) (list_any (is_commit t c.at) rs) is)) (learn-one f r here))
      (λ later. inr (or_right (is_commit t c.at r) (list_any (is_commit t c.at) rs) later))
      (learn-all (learn f r) rs h)

  any-more : (test : Record → Bool) (rs more : List Record) → list_any test rs ≡ true → list_any test (rs ++ more) ≡ true
  any-more test (r ∷ rs) more h = step (test r) h (any-more test rs more)
    where
      step : (b : Bool) → (b || list_any test rs) ≡ true → (list_any test rs ≡ true → list_any test (rs ++ more) ≡ true) →
          (b || list_any test (rs ++ more)) ≡ true
      step true e ih = refl
      step false e ih = ih e
  any-more test [] more h = cc

  -- what stands decided by facts that are alike to those of a log is in that log, and in one with a record more
  pub has-commit : (records : Result (List Record) Fault) (facts : Facts) (r : Record) → IsKnown records facts → recorded facts t ≡ StandsDecided c
      → HasCommit (and_logged records (Some r)) t c.at
  has-commit (Ok rs) facts r known stands =
      any-more (is_commit t c.at) rs (r ∷ [])
      (⊎_elim (λ before. absurd (cc)) (λ is. is)
      (learn-all no_facts rs (sym (ap (λ es. or_unrecorded (entry_for es t)) known.entries) ∙ stands)))
  has-commit (Err fault) facts r known stands = absurd known
