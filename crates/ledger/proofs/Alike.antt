-- Logs that are alike keep the same, and stay alike by one more record.
use Rattle.std.proofs.Common.{◌≡◌, ℕ, Bool, max, List, [], ◌∷◌, ◌++◌, filter, Some, refl, sym, ap, subst, ◌∙◌, arith}
use Rattle.units.specs.Lists.{follow}
use Rattle.units.specs.Keys.{same_key}
use Rattle.units.specs.Versions.{newest}
use Rattle.units.specs.declared.writes.Install.{Install}
use Rattle.record.specs.Records.{StandsPrepared, StandsDecided, HasAborted, HasSettled, HasClosed, stamp_in}
use Rattle.record.specs.Facts.{Facts, kept_entries, learn, recorded, with_status, after_outcome, installs_at, or_floor}
use Rattle.record.specs.declared.record.Record.TheVariants.{Opened, Ceiling, Prepare, Commit, Abort, Outcome, Horizon, Base, Version, Settled, Closed, Retired}
use Rattle.facts.specs.Shown.{status_in}
use Rattle.versions.specs.Ordered.{is_by}
use Rattle.versions.proofs.Newest.{at_time_is}
use Rattle.versions.specs.Places.{SameVersions}
use Rattle.versions.proofs.Same.{same-higher}
use Rattle.ledger.specs.Keeps.{Alike}
use Rattle.ledger.specs.Laws.{AlikeKeeps, AlikeStays}
use Rattle.ledger.proofs.Newest.{newer_of, newest-more}

-- facts are alike to themselves
pub alike-refl : (a : Facts) → Alike a a
alike-refl a = record {
  epoch = refl;
  floor = refl;
  horizon = refl;
  retired = refl;
  entries = refl;
  versions = record { now = λ k. refl; at = λ k t le. refl };
}

pub alike-keeps : AlikeKeeps
alike-keeps a b h = record {
  epoch = h.epoch;
  floor = h.floor;
  horizon = h.horizon;
  retired = h.retired;
  entries = h.entries;
  values = λ k t le.
      at_time_is k t a.installs ∙ ap (λ found. follow found (λ i. i.value)) (h.versions.at k t le) ∙ sym (at_time_is k t b.installs);
}

-- ---- versions

pub same-append : (h : ℕ) (a b c : List Install) → SameVersions h a b → SameVersions h (a ++ c) (b ++ c)
same-append h a b c same = record {
  now = λ k. by_test (λ x. same_key x.key k) (same.now k);
  at = λ k t le. by_test (is_by k t) (same.at k t le);
}
  where
    by_test : (test : Install → Bool) → newest (filter test a) ≡ newest (filter test b) → newest (filter test (a ++ c)) ≡ newest (filter test (b ++ c))
    by_test test e = newest-more test a c ∙ ap (λ n. newer_of n (newest (filter test c))) e ∙ sym (newest-more test b c)

-- ---- one more record

-- the parts of what is alike
made : (a b : Facts) → a.retired ≡ b.retired → a.epoch ≡ b.epoch → a.floor ≡ b.floor → a.horizon ≡ b.horizon → a.entries ≡ b.entries
    → SameVersions a.horizon a.installs b.installs → Alike a b
made a b rt e f h es v = record { epoch = e; floor = f; horizon = h; retired = rt; entries = es; versions = v }

pub alike-stays : AlikeStays
unfolding learn
alike-stays a b (Opened e) h = made _ _ h.retired refl h.floor h.horizon h.entries h.versions
alike-stays a b (Ceiling at) h = made _ _ h.retired h.epoch (ap (λ n. max n at) h.floor) h.horizon h.entries h.versions
alike-stays a b (Retired below) h = made _ _ refl h.epoch h.floor h.horizon (ap (kept_entries (Some below)) h.entries) h.versions
alike-stays a b (Horizon at) h =
    made _ _ h.retired h.epoch h.floor (ap (λ n. max n at) h.horizon) h.entries (same-higher a.horizon (max a.horizon at) _ _ (omega arith) h.versions)
alike-stays a b (Prepare p) h =
    made _ _ h.retired h.epoch (ap (λ n. or_floor n (stamp_in (Prepare p))) h.floor) h.horizon (ap (λ es. with_status es p.txn
    (StandsPrepared p)) h.entries) h.versions
alike-stays a b (Commit c) h =
    made _ _ h.retired h.epoch (ap (λ n. or_floor n (stamp_in (Commit c))) h.floor) h.horizon (ap (λ es. with_status es c.txn (StandsDecided c)) h.entries) h.versions
alike-stays a b (Abort t) h = made _ _ h.retired h.epoch h.floor h.horizon (ap (λ es. with_status es t HasAborted) h.entries) h.versions
alike-stays a b (Outcome t o) h =
    let same : status_in a.entries t ≡ status_in b.entries t = ap (λ es. status_in es t) h.entries in
    made _ _ h.retired h.epoch (ap (λ n. or_floor n (stamp_in (Outcome t o))) h.floor) h.horizon
    (λ i. with_status (h.entries i) t (after_outcome (same i) o))
    (subst (λ s. SameVersions a.horizon (a.installs ++ installs_at (recorded a t) o) (b.installs ++ installs_at s o)) same
    (same-append a.horizon a.installs b.installs (installs_at (recorded a t) o) h.versions))
alike-stays a b (Base epoch floor horizon) h =
    made _ _ h.retired refl (ap (λ n. max n floor) h.floor) (ap (λ n. max n horizon) h.horizon) h.entries
    (same-higher a.horizon (max a.horizon horizon) _ _ (omega arith) h.versions)
alike-stays a b (Version i) h =
    made _ _ h.retired h.epoch (ap (λ n. max n i.at) h.floor) h.horizon h.entries (same-append a.horizon _ _ (i ∷ []) h.versions)
alike-stays a b (Settled t at parts) h =
    made _ _ h.retired h.epoch (ap (λ n. max n at) h.floor) h.horizon (ap (λ es. with_status es t (HasSettled at parts)) h.entries) h.versions
alike-stays a b (Closed t coordinator outcome) h =
    made _ _ h.retired h.epoch (ap (λ n. or_floor n outcome) h.floor) h.horizon (ap (λ es. with_status es t (HasClosed coordinator outcome)) h.entries) h.versions
