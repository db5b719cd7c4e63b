-- The status of an id after one more record: that of the record's own id changes, those of all others stay.
use Rattle.std.specs.List.{list_any, list_all}
use Rattle.std.proofs.Common.{refl, sym, ◌∙◌, ap, subst}
use Rattle.std.specs.Prelude.{◌≡◌, Bool, true, false, not, cond, ◌||◌, List, [], ◌∷◌, ◌++◌, map, Option, Some, None, filter}
use Rattle.std.proofs.lemmas.Bool.{and_from, or_parts, and_parts}
use Rattle.std.proofs.Math.Bool.{or-false}
use Rattle.units.specs.Lists.{gather, first, head}
use Rattle.units.specs.Ids.{Id, same_id, older, with_id}
use Rattle.units.proofs.Folds.{or_else}
use Rattle.units.proofs.IdLaws.{same_id-is, same_id_comm, older_not_same, older_total}
use Rattle.units.proofs.IdOrder.{above_more, rises, any_once}
use Rattle.record.specs.Facts.{TxnStatus, facts_of, recorded, or_unrecorded, with_status}
use Rattle.record.specs.Records.{Ended, Status, Unrecorded, id_in, ids_of, prepared_of, committed_of, is_aborted, ended_of, retired_of, is_below, status_by, status_written, status_of}
use Rattle.record.specs.declared.record.Committed.{Committed}
use Rattle.record.specs.declared.record.Prepared.{Prepared}
use Rattle.record.specs.declared.record.Record.{Record}
use Rattle.record.specs.declared.record.Record.TheVariants.{Opened, Ceiling, Prepare, Commit, Abort, Outcome, Horizon, Base, Version, Settled, Closed, Retired}
use Rattle.record.proofs.Sound.{aborted_more, prepared_more, committed_more, ended_more}

-- the status from the parts of the log and those of the record
pub status_more : (log : List Record) (r : Record) (t : Id) →
    status_written (log ++ r ∷ []) t
    ≡ status_by (is_aborted log t || is_aborted (r ∷ []) t) (or_else (committed_of log t) (committed_of (r ∷ []) t))
    (or_else (prepared_of log t) (prepared_of (r ∷ []) t)) (or_else (ended_of log t) (ended_of (r ∷ []) t))
unfolding status_written
status_more log r t =
    ap (λ a. status_by a (committed_of (log ++ r ∷ []) t) (prepared_of (log ++ r ∷ []) t) (ended_of (log ++ r ∷ []) t)) (aborted_more log r t)
    ∙ ap (λ c. status_by (is_aborted log t || is_aborted (r ∷ []) t) c (prepared_of (log ++ r ∷ []) t) (ended_of (log ++ r ∷ []) t)) (committed_more log r t)
    ∙ ap (λ p. status_by (is_aborted log t || is_aborted (r ∷ []) t) (or_else (committed_of log t) (committed_of (r ∷ []) t)) p
    (ended_of (log ++ r ∷ []) t)) (prepared_more log r t)
    ∙ ap (λ e. status_by (is_aborted log t || is_aborted (r ∷ []) t) (or_else (committed_of log t) (committed_of (r ∷ []) t))
    (or_else (prepared_of log t) (prepared_of (r ∷ []) t)) e) (ended_more log r t)

pub or_none : {A : Type 0} (o : Option A) → or_else o None ≡ o
or_none None = refl
or_none (Some x) = refl

-- with nothing of the id in the record
as_before : (a : Bool) (c : Option Committed) (p : Option Prepared) (e : Option Ended) (b : Bool) (d : Option Committed) (q : Option Prepared)
    (f : Option Ended) →
    b ≡ false → d ≡ None → q ≡ None → f ≡ None → status_by (a || b) (or_else c d) (or_else p q) (or_else e f) ≡ status_by a c p e
as_before a c p e b d q f g h k l =
    ap (λ x. status_by (a || x) (or_else c d) (or_else p q) (or_else e f)) g
    ∙ ap (λ x. status_by x (or_else c d) (or_else p q) (or_else e f)) (or-false a)
    ∙ ap (λ x. status_by a (or_else c x) (or_else p q) (or_else e f)) h
    ∙ ap (λ x. status_by a x (or_else p q) (or_else e f)) (or_none c)
    ∙ ap (λ x. status_by a c (or_else p x) (or_else e f)) k
    ∙ ap (λ x. status_by a c x (or_else e f)) (or_none p)
    ∙ ap (λ x. status_by a c p (or_else e x)) l
    ∙ ap (λ x. status_by a c p x) (or_none e)

no_single : {A : Type 0} (b : Bool) (x : A) → b ≡ false → head (cond b (x ∷ []) []) ≡ None
no_single true x e = cc
no_single false x e = refl

apart_single : (t u : Id) → (same_id t u || false) ≡ false → same_id u t ≡ false
apart_single t u e = same_id_comm u t ∙ (sym (or-false (same_id t u)) ∙ e)

-- the status of an id that the record is not about
pub status_same : (log : List Record) (r : Record) (t : Id) → list_any (same_id t) (gather id_in (r ∷ [])) ≡ false →
    status_written (log ++ r ∷ []) t ≡ status_written log t
unfolding status_written
status_same log r t apart = status_more log r t ∙ by_kind r apart
  where
    by_kind : (q : Record) → list_any (same_id t) (gather id_in (q ∷ [])) ≡ false →
        status_by (is_aborted log t || is_aborted (q ∷ []) t) (or_else (committed_of log t) (committed_of (q ∷ []) t))
        (or_else (prepared_of log t) (prepared_of (q ∷ []) t)) (or_else (ended_of log t) (ended_of (q ∷ []) t))
        ≡ status_by (is_aborted log t) (committed_of log t) (prepared_of log t) (ended_of log t)
    by_kind (Opened e) h = as_before _ _ _ _ _ _ _ _ refl refl refl refl
    by_kind (Ceiling at) h = as_before _ _ _ _ _ _ _ _ refl refl refl refl
    by_kind (Retired least) h = as_before _ _ _ _ _ _ _ _ refl refl refl refl
    by_kind (Horizon at) h = as_before _ _ _ _ _ _ _ _ refl refl refl refl
    by_kind (Base epoch floor horizon) h = as_before _ _ _ _ _ _ _ _ refl refl refl refl
    by_kind (Version install) h = as_before _ _ _ _ _ _ _ _ refl refl refl refl
    by_kind (Settled u at parts) h =
        as_before _ _ _ _ _ _ _ _ refl (no_single (same_id u t) _ (apart_single t u h)) refl (no_single (same_id u t) _ (apart_single t u h))
    by_kind (Closed u coordinator outcome) h =
        as_before _ _ _ _ _ _ _ _ refl refl (no_single (same_id u t) _ (apart_single t u h)) (no_single (same_id u t) _ (apart_single t u h))
    by_kind (Prepare p) h = as_before _ _ _ _ _ _ _ _ refl refl (no_single (same_id p.txn t) p (apart_single t p.txn h)) refl
    by_kind (Commit c) h = as_before _ _ _ _ _ _ _ _ refl (no_single (same_id c.txn t) c (apart_single t c.txn h)) refl refl
    by_kind (Abort u) h = as_before _ _ _ _ _ _ _ _ h refl refl refl
    by_kind (Outcome u o) h = as_before _ _ _ _ _ _ _ _ refl refl refl (no_single (same_id u t) _ (apart_single t u h))

-- ---- an id that no record is about

not_first : {A : Type 0} (b : Bool) (x : A) (rest : List A) → b ≡ false → head rest ≡ None → head (cond b (x ∷ rest) rest) ≡ None
not_first true x rest e f = cc
not_first false x rest e f = f

none_aborted : (t : Id) (log : List Record) → list_any (same_id t) (gather id_in log) ≡ false → is_aborted log t ≡ false
none_aborted t [] e = refl
none_aborted t (Opened epoch ∷ rs) e = none_aborted t rs e
none_aborted t (Ceiling at ∷ rs) e = none_aborted t rs e
none_aborted t (Retired least ∷ rs) e = none_aborted t rs e
none_aborted t (Horizon at ∷ rs) e = none_aborted t rs e
none_aborted t (Base epoch floor horizon ∷ rs) e = none_aborted t rs e
none_aborted t (Version install ∷ rs) e = none_aborted t rs e
none_aborted t (Settled u at parts ∷ rs) e = none_aborted t rs ((or_parts _ _ e).1)
none_aborted t (Closed u coordinator outcome ∷ rs) e = none_aborted t rs ((or_parts _ _ e).1)
none_aborted t (Prepare p ∷ rs) e = none_aborted t rs ((or_parts _ _ e).1)
none_aborted t (Commit c ∷ rs) e = none_aborted t rs ((or_parts _ _ e).1)
none_aborted t (Abort u ∷ rs) e = ap (λ b. b || is_aborted rs t) ((or_parts _ _ e).0) ∙ none_aborted t rs ((or_parts _ _ e).1)
none_aborted t (Outcome u o ∷ rs) e = none_aborted t rs ((or_parts _ _ e).1)

none_prepared : (t : Id) (log : List Record) → list_any (same_id t) (gather id_in log) ≡ false → prepared_of log t ≡ None
none_prepared t [] e = refl
none_prepared t (Opened epoch ∷ rs) e = none_prepared t rs e
none_prepared t (Ceiling at ∷ rs) e = none_prepared t rs e
none_prepared t (Retired least ∷ rs) e = none_prepared t rs e
none_prepared t (Horizon at ∷ rs) e = none_prepared t rs e
none_prepared t (Base epoch floor horizon ∷ rs) e = none_prepared t rs e
none_prepared t (Version install ∷ rs) e = none_prepared t rs e
none_prepared t (Settled u at parts ∷ rs) e = none_prepared t rs ((or_parts _ _ e).1)
none_prepared t (Closed u coordinator outcome ∷ rs) e =
    not_first (same_id u t) _ _ (same_id_comm u t ∙ (or_parts _ _ e).0) (none_prepared t rs ((or_parts _ _ e).1))
none_prepared t (Prepare p ∷ rs) e =
    not_first (same_id p.txn t) p _ (same_id_comm p.txn t ∙ (or_parts _ _ e).0) (none_prepared t rs ((or_parts _ _ e).1))
none_prepared t (Commit c ∷ rs) e = none_prepared t rs ((or_parts _ _ e).1)
none_prepared t (Abort u ∷ rs) e = none_prepared t rs ((or_parts _ _ e).1)
none_prepared t (Outcome u o ∷ rs) e = none_prepared t rs ((or_parts _ _ e).1)

none_committed : (t : Id) (log : List Record) → list_any (same_id t) (gather id_in log) ≡ false → committed_of log t ≡ None
none_committed t [] e = refl
none_committed t (Opened epoch ∷ rs) e = none_committed t rs e
none_committed t (Ceiling at ∷ rs) e = none_committed t rs e
none_committed t (Retired least ∷ rs) e = none_committed t rs e
none_committed t (Horizon at ∷ rs) e = none_committed t rs e
none_committed t (Base epoch floor horizon ∷ rs) e = none_committed t rs e
none_committed t (Version install ∷ rs) e = none_committed t rs e
none_committed t (Settled u at parts ∷ rs) e =
    not_first (same_id u t) _ _ (same_id_comm u t ∙ (or_parts _ _ e).0) (none_committed t rs ((or_parts _ _ e).1))
none_committed t (Closed u coordinator outcome ∷ rs) e = none_committed t rs ((or_parts _ _ e).1)
none_committed t (Prepare p ∷ rs) e = none_committed t rs ((or_parts _ _ e).1)
none_committed t (Commit c ∷ rs) e =
    not_first (same_id c.txn t) c _ (same_id_comm c.txn t ∙ (or_parts _ _ e).0) (none_committed t rs ((or_parts _ _ e).1))
none_committed t (Abort u ∷ rs) e = none_committed t rs ((or_parts _ _ e).1)
none_committed t (Outcome u o ∷ rs) e = none_committed t rs ((or_parts _ _ e).1)

none_recorded : (t : Id) (log : List Record) → list_any (same_id t) (gather id_in log) ≡ false → status_written log t ≡ Unrecorded
unfolding status_written
none_recorded t log e =
    ap (λ a. status_by a (committed_of log t) (prepared_of log t) (ended_of log t)) (none_aborted t log e)
    ∙ ap (λ c. status_by false c (prepared_of log t) (ended_of log t)) (none_committed t log e)
    ∙ ap (λ p. status_by false None p (ended_of log t)) (none_prepared t log e)

-- ---- the status that the facts give

-- the entries of some ids
unfoldable pub entries_by : (Id → Status) → List Id → List TxnStatus
entries_by f ids = map (λ t. record { txn = t; status = f t }) ids

found : (f : Id → Status) (t : Id) (ids : List Id) →
    or_unrecorded (first (λ e. same_id e.txn t) (entries_by f ids)) ≡ cond (list_any (same_id t) ids) (f t) Unrecorded
unfolding entries_by
found f t [] = refl
found f t (u ∷ us) = by_test (same_id u t) refl (found f t us)
  where
    by_test : (b : Bool) → same_id u t ≡ b →
        or_unrecorded (head (filter (λ e. same_id e.txn t) (entries_by f us))) ≡ cond (list_any (same_id t) us) (f t) Unrecorded →
        or_unrecorded (head (cond b (record { txn = u; status = f u } ∷ filter (λ e. same_id e.txn t) (entries_by f us))
        (filter (λ e. same_id e.txn t) (entries_by f us))))
        ≡ cond (same_id t u || list_any (same_id t) us) (f t) Unrecorded
    by_test true e rest = ap f (same_id-is u t e) ∙ sym (ap (λ b. cond (b || list_any (same_id t) us) (f t) Unrecorded) (same_id_comm t u ∙ e))
    by_test false e rest = rest ∙ sym (ap (λ b. cond (b || list_any (same_id t) us) (f t) Unrecorded) (same_id_comm t u ∙ e))

recorded_by : (b : Bool) (log : List Record) (t : Id) → list_any (same_id t) (ids_of log) ≡ b → cond b (status_written log t) Unrecorded ≡ status_written log t
recorded_by true log t e = refl
recorded_by false log t e = sym (none_recorded t log (sym (any_once t (gather id_in log)) ∙ e))

-- an entry is found among those that are kept if its id is
pub first_kept : (keeps : Id → Bool) (t : Id) (es : List TxnStatus) →
    or_unrecorded (first (λ e. same_id e.txn t) (filter (λ e. keeps e.txn) es))
    ≡ cond (keeps t) (or_unrecorded (first (λ e. same_id e.txn t) es)) Unrecorded
first_kept keeps t [] = same_both (keeps t)
  where
    same_both : (b : Bool) → Unrecorded ≡ cond b Unrecorded Unrecorded
    same_both true = refl
    same_both false = refl
first_kept keeps t (e ∷ es) = by_tests (keeps e.txn) (same_id e.txn t) refl refl (first_kept keeps t es)
  where
    by_tests : (k b : Bool) → keeps e.txn ≡ k → same_id e.txn t ≡ b →
        or_unrecorded (first (λ e. same_id e.txn t) (filter (λ e. keeps e.txn) es))
        ≡ cond (keeps t) (or_unrecorded (first (λ e. same_id e.txn t) es)) Unrecorded →
        or_unrecorded (first (λ e. same_id e.txn t) (cond k (e ∷ filter (λ e. keeps e.txn) es) (filter (λ e. keeps e.txn) es)))
        ≡ cond (keeps t) (or_unrecorded (head (cond b (e ∷ filter (λ e. same_id e.txn t) es) (filter (λ e. same_id e.txn t) es)))) Unrecorded
    by_tests true true p q rest =
        ap (λ b. or_unrecorded (head (cond b (e ∷ filter (λ e. same_id e.txn t) (filter (λ e. keeps e.txn) es))
        (filter (λ e. same_id e.txn t) (filter (λ e. keeps e.txn) es))))) q
        ∙ sym (ap (λ b. cond b e.status Unrecorded) (sym (ap keeps (same_id-is e.txn t q)) ∙ p))
    by_tests true false p q rest =
        ap (λ b. or_unrecorded (head (cond b (e ∷ filter (λ e. same_id e.txn t) (filter (λ e. keeps e.txn) es))
        (filter (λ e. same_id e.txn t) (filter (λ e. keeps e.txn) es))))) q
        ∙ rest
    by_tests false true p q rest =
        let gone : keeps t ≡ false = sym (ap keeps (same_id-is e.txn t q)) ∙ p in
        rest ∙ ap (λ b. cond b (or_unrecorded (first (λ e. same_id e.txn t) es)) Unrecorded) gone
        ∙ sym (ap (λ b. cond b e.status Unrecorded) gone)
    by_tests false false p q rest = rest

turned_cond : (b : Bool) (s : Status) → cond (not b) s Unrecorded ≡ cond b Unrecorded s
turned_cond true s = refl
turned_cond false s = refl

-- the facts of a log give the status of each id
pub recorded_is : (log : List Record) (t : Id) → recorded (facts_of log) t ≡ status_of log t
unfolding facts_of status_of entries_by
recorded_is log t =
    first_kept (λ u. not (is_below (retired_of log) u)) t (entries_by (λ u. status_written log u) (ids_of log))
    ∙ ap (λ s. cond (not (is_below (retired_of log) t)) s Unrecorded)
    (found (λ u. status_written log u) t (ids_of log) ∙ recorded_by (list_any (same_id t) (ids_of log)) log t refl)
    ∙ turned_cond (is_below (retired_of log) t) (status_written log t)

-- ---- one status given anew

entries_same : (f g : Id → Status) (t : Id) → ((u : Id) → same_id u t ≡ false → g u ≡ f u) → (us : List Id) → list_all (older t) us ≡ true →
    entries_by g us ≡ entries_by f us
unfolding entries_by
entries_same f g t same [] h = refl
entries_same f g t same (u ∷ us) h =
    let p : (older t u ≡ true) × (list_all (older t) us ≡ true) = and_parts _ _ h in
    let apart : same_id u t ≡ false = same_id_comm u t ∙ older_not_same t u p.0 in
    ap (λ s. let e : TxnStatus = record { txn = u; status = s } in e ∷ entries_by g us) (same u apart)
    ∙ ap (λ l. let e : TxnStatus = record { txn = u; status = f u } in e ∷ l) (entries_same f g t same us p.1)

-- an id put in its place with its status, where all others keep theirs
pub entries_with : (f g : Id → Status) (t : Id) → ((u : Id) → same_id u t ≡ false → g u ≡ f u) → (us : List Id) → rises us ≡ true →
    entries_by g (with_id us t) ≡ with_status (entries_by f us) t (g t)
unfolding entries_by
entries_with f g t same [] h = refl
entries_with f g t same (u ∷ us) h =
    placed (same_id u t) (older u t) refl refl (and_parts _ _ h) (entries_with f g t same us ((and_parts _ _ h).1))
  where
    placed : (a b : Bool) → same_id u t ≡ a → older u t ≡ b → (list_all (older u) us ≡ true) × (rises us ≡ true) →
        entries_by g (with_id us t) ≡ with_status (entries_by f us) t (g t) →
        entries_by g (cond a (u ∷ us) (cond b (u ∷ with_id us t) (t ∷ u ∷ us)))
        ≡ cond a (record { txn = t; status = g t } ∷ entries_by f us)
        (cond b (record { txn = u; status = f u } ∷ with_status (entries_by f us) t (g t))
        (record { txn = t; status = g t } ∷ record { txn = u; status = f u } ∷ entries_by f us))
    placed true b e k p rest =
        ap (λ v. let x : TxnStatus = record { txn = v; status = g v } in x ∷ entries_by g us) (same_id-is u t e)
        ∙ ap (λ l. let x : TxnStatus = record { txn = t; status = g t } in x ∷ l)
        (entries_same f g t same us (subst (λ v. list_all (older v) us ≡ true) (same_id-is u t e) p.0))
    placed false true e k p rest =
        ap (λ s. let x : TxnStatus = record { txn = u; status = s } in x ∷ entries_by g (with_id us t)) (same u e)
        ∙ ap (λ l. let x : TxnStatus = record { txn = u; status = f u } in x ∷ l) rest
    placed false false e k p rest =
        let below : older t u ≡ true = older_total u t e k in
        ap (λ l. let x : TxnStatus = record { txn = t; status = g t } in x ∷ l)
        (entries_same f g t same (u ∷ us) (and_from _ _ below (above_more t u us below p.0)))
