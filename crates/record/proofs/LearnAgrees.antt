-- The facts that are learnt record by record are those that are read from the set of all records.
use Rattle.std.specs.List.{list_any, list_all}
use Rattle.std.proofs.Common.{refl, sym, ◌∙◌, ap, subst, arith, append_assoc}
use Rattle.std.proofs.lemmas.Bool.Decides.{nat_tests}
use Rattle.std.proofs.lemmas.Bool.{eqb-true, or_right, and_parts, or_parts, false≢true}
use Rattle.std.specs.Prelude.{ℕ, ◌+◌, ◌≡◌, max, Bool, true, false, not, cond, ◌&&◌, ◌||◌, List, [], ◌∷◌, ◌++◌, Option, Some, None, flat_map, filter}
use Rattle.std.proofs.lemmas.List.{append-nil}
use Rattle.std.proofs.lemmas.Grind.{flat_map-append}
use Rattle.std.proofs.Math.Bool.{or-false}
use Rattle.units.specs.Lists.{gather, first, greatest}
use Rattle.units.specs.Ids.{Id, same_id, older, with_id, ids_once}
use Rattle.units.specs.Versions.{versions}
use Rattle.units.specs.declared.setup.Setup.{Setup}
use Rattle.units.specs.declared.writes.Install.{Install}
use Rattle.units.specs.declared.writes.Write.{Write}
use Rattle.units.proofs.Folds.{or_else, is_there, gather_append, greatest_append, there_first, join_same}
use Rattle.units.proofs.IdLaws.{same_id-is, same_id-refl}
use Rattle.units.proofs.IdOrder.{once_more, rises_once}
use Rattle.record.specs.Accepted.{Taken, Accepted, DamagedAt, StrangerAt, taken, taken_from, belongs, begins, follows, fits_beside, followed, followed_from, rises}
use Rattle.record.specs.Facts.{Facts, TxnStatus, facts_of, learn, with_status, after_outcome, installs_at, or_floor, kept_entries, recorded}
use Rattle.record.specs.FactLaws.{LearnAgrees, LearntAgrees, AcceptedFollows, learnt}
use Rattle.record.specs.Installs.{installs_of, installed_by, writes_by}
use Rattle.record.specs.Records.{Ended, Status, Unrecorded, StandsPrepared, StandsDecided, HasAborted, HasSettled, HasClosed, as_opened, as_ended}
use Rattle.record.specs.Records.{as_version, settled_decision, closed_promise}
use Rattle.record.specs.Records.{stamp_in, as_horizon, as_retired, last_id, retired_of, is_below, id_in, ids_of, epoch_of, floor_of, horizon_of, prepared_of, committed_of, is_aborted, ended_of}
use Rattle.record.specs.Records.{status_by, status_written, status_of}
use Rattle.record.specs.declared.record.Committed.{Committed}
use Rattle.record.specs.declared.record.Prepared.{Prepared}
use Rattle.record.specs.declared.record.Record.{Record}
use Rattle.record.specs.declared.record.Record.TheVariants.{Opened, Ceiling, Prepare, Commit, Abort, Outcome, Horizon, Base, Version, Settled, Closed, Retired}
use Rattle.record.proofs.Sound.{Sound, sound_empty, sound_more, made, new_facts, prepare_new, commit_new, settled_new, closed_new, outcome_follows}
use Rattle.record.proofs.Sound.{opened_follows}
use Rattle.record.proofs.Sound.{aborted_more, committed_more, prepared_more, ended_more, outcome_made, base_first, version_next}
use Rattle.record.proofs.Sound.{prepare_kept, commit_kept, abort_kept, settled_kept, closed_kept, outcome_kept}
use Rattle.record.proofs.Statuses.{status_more, status_same, recorded_is, entries_by, entries_with, or_none}

-- ---- the epoch and the floor

max_none : (n : ℕ) → max n 0 ≡ n
max_none n = omega arith

max_one : (n e : ℕ) → max n (max e 0) ≡ max n e
max_one n e = omega arith

max_next : (n e : ℕ) → e ≡ n + 1 → max n (max e 0) ≡ e
max_next n e h = omega (arith, h)

max_first : (n e : ℕ) → n ≡ 0 → max n (max e 0) ≡ e
max_first n e h = omega (arith, h)

epoch_after : ℕ → Record → ℕ
epoch_after n (Opened e) = e
epoch_after n (Ceiling at) = n
epoch_after n (Retired least) = n
epoch_after n (Horizon at) = n
epoch_after n (Base epoch floor horizon) = epoch
epoch_after n (Version install) = n
epoch_after n (Settled t at parts) = n
epoch_after n (Closed t coordinator outcome) = n
epoch_after n (Prepare p) = n
epoch_after n (Commit c) = n
epoch_after n (Abort t) = n
epoch_after n (Outcome t outcome) = n

epoch_more : (shard : ℕ) (log : List Record) (r : Record) → follows shard log r ≡ true → epoch_of (log ++ r ∷ []) ≡ epoch_after (epoch_of log) r
unfolding epoch_after
epoch_more shard log r h =
    ap greatest (gather_append as_opened log (r ∷ [])) ∙ greatest_append (gather as_opened log) (gather as_opened (r ∷ [])) ∙ by_kind r h
  where
    by_kind : (q : Record) → follows shard log q ≡ true → max (epoch_of log) (greatest (gather as_opened (q ∷ []))) ≡ epoch_after (epoch_of log) q
    by_kind (Opened e) k = max_next (epoch_of log) e (eqb-true _ _ (opened_follows shard log e k))
    by_kind (Ceiling at) k = max_none _
    by_kind (Retired least) k = max_none _
    by_kind (Horizon at) k = max_none _
    by_kind (Base epoch floor horizon) k = max_first (epoch_of log) epoch (ap epoch_of (base_first shard log epoch floor horizon k))
    by_kind (Version install) k = max_none _
    by_kind (Settled t at parts) k = max_none _
    by_kind (Closed t coordinator outcome) k = max_none _
    by_kind (Prepare p) k = max_none _
    by_kind (Commit c) k = max_none _
    by_kind (Abort t) k = max_none _
    by_kind (Outcome t o) k = max_none _

-- the greatest of what the records hold, with one record more
greatest_more : (of : Record → Option ℕ) (log : List Record) (r : Record) →
    greatest (gather of (log ++ r ∷ [])) ≡ or_floor (greatest (gather of log)) (of r)
greatest_more of log r = ap greatest (gather_append of log (r ∷ [])) ∙ greatest_append (gather of log) (gather of (r ∷ [])) ∙ by_stamp (of r)
  where
    by_stamp : (o : Option ℕ) →
        max (greatest (gather of log)) (greatest (elim o as (λ q. List ℕ) [ None ↦ [] | Some s ↦ s ∷ [] ])) ≡ or_floor (greatest (gather of log)) o
    by_stamp None = max_none _
    by_stamp (Some s) = max_one _ s

floor_more : (log : List Record) (r : Record) → floor_of (log ++ r ∷ []) ≡ or_floor (floor_of log) (stamp_in r)
floor_more log r = greatest_more stamp_in log r

horizon_more : (log : List Record) (r : Record) → horizon_of (log ++ r ∷ []) ≡ or_floor (horizon_of log) (as_horizon r)
horizon_more log r = greatest_more as_horizon log r

-- ---- the entries

written : List Record → List TxnStatus
written log = entries_by (λ t. status_written log t) (ids_of log)

-- a record of no id
written_stay : (log : List Record) (r : Record) → gather id_in (r ∷ []) ≡ [] → written (log ++ r ∷ []) ≡ written log
unfolding written
written_stay log r none =
    let ids : gather id_in (log ++ r ∷ []) ≡ gather id_in log =
    gather_append id_in log (r ∷ []) ∙ ap (λ l. gather id_in log ++ l) none ∙ append-nil (gather id_in log) in
    let same : (t : Id) → status_written (log ++ r ∷ []) t ≡ status_written log t = λ t. status_same log r t (ap (λ l. list_any (same_id t) l) none) in
    ap (λ l. entries_by (λ t. status_written (log ++ r ∷ []) t) (ids_once l)) ids
    ∙ ap (λ (f : Id → Status). entries_by f (ids_of log)) (λ i t. same t i)

-- a record of an id
written_change : (log : List Record) (r : Record) (t : Id) (s : Status) → gather id_in (r ∷ []) ≡ t ∷ [] → status_written (log ++ r ∷ []) t ≡ s →
    written (log ++ r ∷ []) ≡ with_status (written log) t s
unfolding written
written_change log r t s one new =
    let ids : ids_of (log ++ r ∷ []) ≡ with_id (ids_of log) t =
    ap ids_once (gather_append id_in log (r ∷ []) ∙ ap (λ l. gather id_in log ++ l) one) ∙ once_more (gather id_in log) t in
    let same : (u : Id) → same_id u t ≡ false → status_written (log ++ r ∷ []) u ≡ status_written log u =
    λ u e. status_same log r u (ap (λ l. list_any (same_id u) l) one ∙ ap (λ b. b || false) e) in
    ap (λ l. entries_by (λ u. status_written (log ++ r ∷ []) u) l) ids
    ∙ entries_with (λ u. status_written log u) (λ u. status_written (log ++ r ∷ []) u) t same (ids_of log) (rises_once (gather id_in log))
    ∙ ap (λ x. with_status (written log) t x) new

-- ---- the status of the record's own id

is_none : {A : Type 0} (o : Option A) → is_there o ≡ false → o ≡ None
is_none None e = refl
is_none (Some x) e = cc

not_there : (b : Bool) → ((b ≡ true) → false ≡ true) → b ≡ false
not_there true h = absurd (false≢true (h refl))
not_there false h = refl

-- nothing is there of an id that is new
record Untouched (log : List Record) (t : Id) : Type 0 where
  aborted : is_aborted log t ≡ false
  committed : committed_of log t ≡ None
  prepared : prepared_of log t ≡ None
  ended : ended_of log t ≡ None

untouched : (log : List Record) (t : Id) → Sound log → is_aborted log t ≡ false → made log t ≡ false → Untouched log t
unfolding made
untouched log t s a m =
    record {
      aborted = a;
      committed = is_none _ ((or_parts _ _ m).1);
      prepared = is_none _ ((or_parts _ _ m).0);
      ended = is_none _ (not_there _ (λ there. sym m ∙ s.closed t there));
    }

new_untouched : (log : List Record) (t : Id) → Sound log → (is_aborted log t ≡ false) × (made log t ≡ false) → Untouched log t
new_untouched log t s p = untouched log t s p.0 p.1

found_one : {A : Type 0} (b : Bool) (x : A) → b ≡ true → first (λ y. b) (x ∷ []) ≡ Some x
found_one true x e = refl
found_one false x e = cc

by_parts : (a b : Bool) (c d : Option Committed) (p q : Option Prepared) (e f : Option Ended) → a ≡ b → c ≡ d → p ≡ q → e ≡ f →
    status_by a c p e ≡ status_by b d q f
by_parts a b c d p q e f g h k l = λ i. status_by (g i) (h i) (k i) (l i)

prepared_status : (log : List Record) (p : Prepared) → Untouched log p.txn → status_written (log ++ Prepare p ∷ []) p.txn ≡ StandsPrepared p
prepared_status log p u =
    status_more log (Prepare p) p.txn
    ∙ by_parts _ false _ None _ (Some p) _ None
    (ap (λ b. b || false) u.aborted)
    (ap (λ o. or_else o None) u.committed)
    (ap (λ o. or_else o (prepared_of (Prepare p ∷ []) p.txn)) u.prepared ∙ found_one (same_id p.txn p.txn) p (same_id-refl p.txn))
    (ap (λ o. or_else o None) u.ended)

decided_status : (log : List Record) (c : Committed) → Untouched log c.txn → status_written (log ++ Commit c ∷ []) c.txn ≡ StandsDecided c
decided_status log c u =
    status_more log (Commit c) c.txn
    ∙ by_parts _ false _ (Some c) _ None _ None
    (ap (λ b. b || false) u.aborted)
    (ap (λ o. or_else o (committed_of (Commit c ∷ []) c.txn)) u.committed ∙ found_one (same_id c.txn c.txn) c (same_id-refl c.txn))
    (ap (λ o. or_else o None) u.prepared)
    (ap (λ o. or_else o None) u.ended)

-- what is read of an id that came with its outcome
settled_committed : (log : List Record) (t : Id) (at : ℕ) (parts : List ℕ) → Untouched log t →
    committed_of (log ++ Settled t at parts ∷ []) t ≡ Some (settled_decision t at parts)
settled_committed log t at parts u =
    committed_more log (Settled t at parts) t
    ∙ ap (λ o. or_else o (committed_of (Settled t at parts ∷ []) t)) u.committed
    ∙ found_one (same_id t t) (settled_decision t at parts) (same_id-refl t)

settled_prepared : (log : List Record) (t : Id) (at : ℕ) (parts : List ℕ) → Untouched log t → prepared_of (log ++ Settled t at parts ∷ []) t ≡ None
settled_prepared log t at parts u = prepared_more log (Settled t at parts) t ∙ ap (λ o. or_else o None) u.prepared

settled_bare : (log : List Record) (t : Id) (at : ℕ) (parts : List ℕ) → Untouched log t →
    writes_by (committed_of (log ++ Settled t at parts ∷ []) t) (prepared_of (log ++ Settled t at parts ∷ []) t) ≡ []
settled_bare log t at parts u = ap (λ c. writes_by c (prepared_of (log ++ Settled t at parts ∷ []) t)) (settled_committed log t at parts u)

ended_there : (log : List Record) (r : Record) (t : Id) (o : Option ℕ) → Untouched log t →
    ended_of (r ∷ []) t ≡ Some (record { txn = t; outcome = o }) → ended_of (log ++ r ∷ []) t ≡ Some (record { txn = t; outcome = o })
ended_there log r t o u is = ended_more log r t ∙ ap (λ e. or_else e (ended_of (r ∷ []) t)) u.ended ∙ is

settled_status : (log : List Record) (t : Id) (at : ℕ) (parts : List ℕ) → Untouched log t → status_written (log ++ Settled t at parts ∷ []) t ≡ HasSettled at parts
unfolding status_written
settled_status log t at parts u =
    by_parts _ false _ (Some (settled_decision t at parts)) _ None _ (Some (record { txn = t; outcome = Some at }))
    (aborted_more log (Settled t at parts) t ∙ ap (λ b. b || false) u.aborted)
    (settled_committed log t at parts u) (settled_prepared log t at parts u)
    (ended_there log (Settled t at parts) t (Some at) u (found_one (same_id t t) _ (same_id-refl t)))

closed_committed : (log : List Record) (t : Id) (coordinator : ℕ) (o : Option ℕ) → Untouched log t → committed_of (log ++ Closed t coordinator o ∷ []) t ≡ None
closed_committed log t coordinator o u = committed_more log (Closed t coordinator o) t ∙ ap (λ c. or_else c None) u.committed

closed_prepared : (log : List Record) (t : Id) (coordinator : ℕ) (o : Option ℕ) → Untouched log t →
    prepared_of (log ++ Closed t coordinator o ∷ []) t ≡ Some (closed_promise t coordinator o)
closed_prepared log t coordinator o u =
    prepared_more log (Closed t coordinator o) t
    ∙ ap (λ p. or_else p (prepared_of (Closed t coordinator o ∷ []) t)) u.prepared
    ∙ found_one (same_id t t) (closed_promise t coordinator o) (same_id-refl t)

closed_bare : (log : List Record) (t : Id) (coordinator : ℕ) (o : Option ℕ) → Untouched log t →
    writes_by (committed_of (log ++ Closed t coordinator o ∷ []) t) (prepared_of (log ++ Closed t coordinator o ∷ []) t) ≡ []
closed_bare log t coordinator o u = λ i. writes_by (closed_committed log t coordinator o u i) (closed_prepared log t coordinator o u i)

closed_status : (log : List Record) (t : Id) (coordinator : ℕ) (o : Option ℕ) → Untouched log t →
    status_written (log ++ Closed t coordinator o ∷ []) t ≡ HasClosed coordinator o
unfolding status_written
closed_status log t coordinator o u =
    by_parts _ false _ None _ (Some (closed_promise t coordinator o)) _ (Some (record { txn = t; outcome = o }))
    (aborted_more log (Closed t coordinator o) t ∙ ap (λ b. b || false) u.aborted)
    (closed_committed log t coordinator o u) (closed_prepared log t coordinator o u)
    (ended_there log (Closed t coordinator o) t o u (found_one (same_id t t) _ (same_id-refl t)))

aborted_status : (log : List Record) (t : Id) → status_written (log ++ Abort t ∷ []) t ≡ HasAborted
aborted_status log t =
    status_more log (Abort t) t
    ∙ ap (λ b. status_by b (or_else (committed_of log t) None) (or_else (prepared_of log t) None) (or_else (ended_of log t) None))
    (or_right (is_aborted log t) (same_id t t || false) (ap (λ b. b || false) (same_id-refl t)))

ended_by : (a : Bool) (c : Option Committed) (p : Option Prepared) (t : Id) (o : Option ℕ) →
    status_by a c p (Some (record { txn = t; outcome = o })) ≡ after_outcome (status_by a c p None) o
ended_by true c p t o = refl
ended_by false (Some c) p t o = refl
ended_by false None (Some p) t o = refl
ended_by false None None t o = refl

ended_status : (log : List Record) (t : Id) (o : Option ℕ) → ended_of log t ≡ None → status_written (log ++ Outcome t o ∷ []) t ≡ after_outcome (status_written log t) o
unfolding status_written
ended_status log t o none =
    status_more log (Outcome t o) t
    ∙ by_parts _ (is_aborted log t) _ (committed_of log t) _ (prepared_of log t) _ (Some (record { txn = t; outcome = o }))
    (or-false (is_aborted log t)) (or_none (committed_of log t)) (or_none (prepared_of log t))
    (ap (λ e. or_else e (ended_of (Outcome t o ∷ []) t)) none ∙ found_one (same_id t t) (record { txn = t; outcome = o }) (same_id-refl t))
    ∙ ended_by (is_aborted log t) (committed_of log t) (prepared_of log t) t o
    ∙ ap (λ e. after_outcome (status_by (is_aborted log t) (committed_of log t) (prepared_of log t) e) o) (sym none)

-- ---- the versions

-- an outcome was promised or decided
all_made : (log : List Record) → Sound log → list_all (λ e. made log e.txn) (gather as_ended log) ≡ true
all_made log s = weaker _ _ (λ e there. s.closed e.txn (there_first (λ d. same_id d.txn e.txn) (gather as_ended log) ∙ there)) (gather as_ended log)
    (each_found (gather as_ended log))
  where
    weaker : (P Q : Ended → Bool) → ((e : Ended) → P e ≡ true → Q e ≡ true) → (es : List Ended) → list_all P es ≡ true → list_all Q es ≡ true
    weaker P Q more [] h = refl
    weaker P Q more (e ∷ es) h = ap (λ b. b && list_all Q es) (more e ((and_parts _ _ h).0)) ∙ weaker P Q more es ((and_parts _ _ h).1)

    each_found : (es : List Ended) → list_all (λ e. list_any (λ d. same_id d.txn e.txn) es) es ≡ true
    each_found [] = refl
    each_found (e ∷ es) =
        ap (λ b. (b || list_any (λ d. same_id d.txn e.txn) es) && list_all (λ x. same_id e.txn x.txn || list_any (λ d. same_id d.txn x.txn) es) es)
        (same_id-refl e.txn)
        ∙ weaker _ _ (λ x h. or_right (same_id e.txn x.txn) _ h) es (each_found es)

no_single : {A : Type 0} (b : Bool) (x : A) → (b ≡ true → false ≡ true) → first (λ y. b) (x ∷ []) ≡ None
no_single true x h = absurd (false≢true (h refl))
no_single false x h = refl

-- what is promised or decided of an id stands before any further record of it
single_none : (shard : ℕ) (log : List Record) (r : Record) (t : Id) → follows shard log r ≡ true → made log t ≡ true →
    (committed_of (r ∷ []) t ≡ None) × (prepared_of (r ∷ []) t ≡ None)
single_none shard log (Opened e) t h m = (refl, refl)
single_none shard log (Ceiling at) t h m = (refl, refl)
single_none shard log (Retired least) t h m = (refl, refl)
single_none shard log (Horizon at) t h m = (refl, refl)
single_none shard log (Base epoch floor horizon) t h m = (refl, refl)
single_none shard log (Version install) t h m = (refl, refl)
single_none shard log (Settled u at parts) t h m = (
  no_single (same_id u t) (settled_decision u at parts) (λ e. sym (subst (λ v. made log v ≡ false) (same_id-is u t e)
      ((new_facts log u (settled_new shard log u at parts h)).1)) ∙ m),
  refl,
)
single_none shard log (Closed u coordinator outcome) t h m = (
  refl,
  no_single (same_id u t) (closed_promise u coordinator outcome) (λ e. sym (subst (λ v. made log v ≡ false) (same_id-is u t e)
      ((new_facts log u (closed_new shard log u coordinator outcome h)).1)) ∙ m),
)
single_none shard log (Prepare p) t h m = (
  refl,
  no_single (same_id p.txn t) p (λ e. sym (subst (λ v. made log v ≡ false) (same_id-is p.txn t e)
      ((new_facts log p.txn (prepare_new shard log p h)).1)) ∙ m),
)
single_none shard log (Commit c) t h m = (
  no_single (same_id c.txn t) c (λ e. sym (subst (λ v. made log v ≡ false) (same_id-is c.txn t e)
      ((new_facts log c.txn (commit_new shard log c h)).1)) ∙ m),
  refl,
)
single_none shard log (Abort u) t h m = (refl, refl)
single_none shard log (Outcome u o) t h m = (refl, refl)

-- what it installs
unfoldable installs_with : Option Committed → Option Prepared → Option ℕ → List Install
installs_with c p o = elim o [ None ↦ [] | Some s ↦ versions (writes_by c p) s ]

installed_same : (shard : ℕ) (log : List Record) (r : Record) → follows shard log r ≡ true → (e : Ended) → made log e.txn ≡ true →
    installed_by (log ++ r ∷ []) e ≡ installed_by log e
unfolding installs_with
installed_same shard log r h e m =
    let p : (committed_of (r ∷ []) e.txn ≡ None) × (prepared_of (r ∷ []) e.txn ≡ None) = single_none shard log r e.txn h m in
    let c : committed_of (log ++ r ∷ []) e.txn ≡ committed_of log e.txn =
    committed_more log r e.txn ∙ ap (λ o. or_else (committed_of log e.txn) o) p.0 ∙ or_none (committed_of log e.txn) in
    let q : prepared_of (log ++ r ∷ []) e.txn ≡ prepared_of log e.txn =
    prepared_more log r e.txn ∙ ap (λ o. or_else (prepared_of log e.txn) o) p.1 ∙ or_none (prepared_of log e.txn) in
    λ i. installs_with (c i) (q i) e.outcome

installed_all : (shard : ℕ) (log : List Record) (r : Record) → Sound log → follows shard log r ≡ true →
    flat_map (installed_by (log ++ r ∷ [])) (gather as_ended log) ≡ flat_map (installed_by log) (gather as_ended log)
installed_all shard log r s h =
    join_same (installed_by (log ++ r ∷ [])) (installed_by log) (λ e. made log e.txn) (installed_same shard log r h) (gather as_ended log) (all_made log s)

-- what the head lists, with one record more
listed_more : (log : List Record) (r : Record) (vs : List Install) → gather as_version (r ∷ []) ≡ vs →
    gather as_version (log ++ r ∷ []) ≡ gather as_version log ++ vs
listed_more log r vs is = gather_append as_version log (r ∷ []) ∙ ap (λ l. gather as_version log ++ l) is

listed_same : (log : List Record) (r : Record) → gather as_version (r ∷ []) ≡ [] → gather as_version (log ++ r ∷ []) ≡ gather as_version log
listed_same log r none = listed_more log r [] none ∙ append-nil (gather as_version log)

-- what outcomes install, where the record is none
ended_stay : (shard : ℕ) (log : List Record) (r : Record) → Sound log → follows shard log r ≡ true → gather as_ended (r ∷ []) ≡ [] →
    flat_map (installed_by (log ++ r ∷ [])) (gather as_ended (log ++ r ∷ [])) ≡ flat_map (installed_by log) (gather as_ended log)
ended_stay shard log r s h none =
    ap (λ l. flat_map (installed_by (log ++ r ∷ [])) l) (gather_append as_ended log (r ∷ []) ∙ ap (λ l. gather as_ended log ++ l) none
    ∙ append-nil (gather as_ended log))
    ∙ installed_all shard log r s h

-- a record that is no version and no outcome installs nothing
installs_stay : (shard : ℕ) (log : List Record) (r : Record) → Sound log → follows shard log r ≡ true → gather as_version (r ∷ []) ≡ [] →
    gather as_ended (r ∷ []) ≡ [] → installs_of (log ++ r ∷ []) ≡ installs_of log
unfolding installs_of
installs_stay shard log r s h unlisted none = λ i. listed_same log r unlisted i ++ ended_stay shard log r s h none i

-- a version stands where nobody ended, so it is the last that is installed
pub version_installs : (shard : ℕ) (log : List Record) (v : Install) → Sound log → follows shard log (Version v) ≡ true →
    installs_of (log ++ Version v ∷ []) ≡ installs_of log ++ v ∷ []
unfolding installs_of
version_installs shard log v s h =
    let none : flat_map (installed_by log) (gather as_ended log) ≡ [] = ap (flat_map (installed_by log)) (s.head v (version_next shard log v h)) in
    (λ i. listed_more log (Version v) (v ∷ []) refl i ++ (ended_stay shard log (Version v) s h refl ∙ none) i)
    ∙ append-nil (gather as_version log ++ v ∷ [])
    ∙ ap (λ l. l ++ v ∷ []) (sym (append-nil (gather as_version log)) ∙ ap (λ l. gather as_version log ++ l) (sym none))

-- of what came with its outcome no writes are left
ended_installs : (shard : ℕ) (log : List Record) (r : Record) (e : Ended) → Sound log → follows shard log r ≡ true → gather as_version (r ∷ []) ≡ [] →
    gather as_ended (r ∷ []) ≡ e ∷ [] → writes_by (committed_of (log ++ r ∷ []) e.txn) (prepared_of (log ++ r ∷ []) e.txn) ≡ [] →
    installs_of (log ++ r ∷ []) ≡ installs_of log
unfolding installs_of
ended_installs shard log r e s h unlisted one bare =
    (λ i. listed_same log r unlisted i ++ ended i)
  where
    bare_by : (o : Option ℕ) (ws : List Write) → ws ≡ [] → (elim o as (λ q. List Install) [ None ↦ [] | Some s ↦ versions ws s ]) ≡ []
    bare_by None ws none = refl
    bare_by (Some s) ws none = ap (λ l. versions l s) none

    ended : flat_map (installed_by (log ++ r ∷ [])) (gather as_ended (log ++ r ∷ [])) ≡ flat_map (installed_by log) (gather as_ended log)
    ended =
        ap (λ l. flat_map (installed_by (log ++ r ∷ [])) l) (gather_append as_ended log (r ∷ []) ∙ ap (λ l. gather as_ended log ++ l) one)
        ∙ flat_map-append (installed_by (log ++ r ∷ [])) (gather as_ended log) (e ∷ [])
        ∙ (λ i. installed_all shard log r s h i
        ++ (append-nil _ ∙ bare_by e.outcome (writes_by (committed_of (log ++ r ∷ []) e.txn) (prepared_of (log ++ r ∷ []) e.txn)) bare) i)
        ∙ append-nil _

none_installed : (s : Status) → installs_at s None ≡ []
none_installed Unrecorded = refl
none_installed (StandsPrepared p) = refl
none_installed (StandsDecided c) = refl
none_installed HasAborted = refl
none_installed (HasSettled at parts) = refl
none_installed (HasClosed c o) = refl

installs_by : (a : Bool) (c : Option Committed) (p : Option Prepared) (v : ℕ) → a ≡ false → (is_there p || is_there c) ≡ true →
    versions (writes_by c p) v ≡ installs_at (status_by a c p None) (Some v)
installs_by true c p v e there = cc
installs_by false (Some c) p v e there = refl
installs_by false None (Some p) v e there = refl
installs_by false None None v e there = cc

-- an outcome installs by the status of its id
outcome_installs : (log : List Record) (t : Id) (o : Option ℕ) → Sound log → ended_of log t ≡ None → made log t ≡ true →
    installed_by log (record { txn = t; outcome = o }) ≡ installs_at (status_written log t) o
unfolding status_written made
outcome_installs log t None s none m = sym (none_installed (status_written log t))
outcome_installs log t (Some v) s none m =
    installs_by (is_aborted log t) (committed_of log t) (prepared_of log t) v (not_there _ (λ a. sym (s.apart t a) ∙ m)) m
    ∙ ap (λ e. installs_at (status_by (is_aborted log t) (committed_of log t) (prepared_of log t) e) (Some v)) (sym none)

ended_change : (shard : ℕ) (log : List Record) (t : Id) (o : Option ℕ) → Sound log → follows shard log (Outcome t o) ≡ true →
    ended_of log t ≡ None → made log t ≡ true →
    flat_map (installed_by (log ++ Outcome t o ∷ [])) (gather as_ended (log ++ Outcome t o ∷ []))
    ≡ flat_map (installed_by log) (gather as_ended log) ++ installs_at (status_written log t) o
ended_change shard log t o s h none m =
    ap (λ l. flat_map (installed_by (log ++ Outcome t o ∷ [])) l) (gather_append as_ended log (Outcome t o ∷ []))
    ∙ flat_map-append (installed_by (log ++ Outcome t o ∷ [])) (gather as_ended log) (record { txn = t; outcome = o } ∷ [])
    ∙ ap (λ l. l ++ (installed_by (log ++ Outcome t o ∷ []) (record { txn = t; outcome = o }) ++ [])) (installed_all shard log (Outcome t o) s h)
    ∙ ap (λ l. flat_map (installed_by log) (gather as_ended log) ++ l)
    (append-nil _ ∙ installed_same shard log (Outcome t o) h (record { txn = t; outcome = o }) m ∙ outcome_installs log t o s none m)

installs_change : (shard : ℕ) (log : List Record) (t : Id) (o : Option ℕ) → Sound log → follows shard log (Outcome t o) ≡ true →
    ended_of log t ≡ None → made log t ≡ true →
    installs_of (log ++ Outcome t o ∷ []) ≡ installs_of log ++ installs_at (status_written log t) o
unfolding installs_of
installs_change shard log t o s h none m =
    (λ i. listed_same log (Outcome t o) refl i ++ ended_change shard log t o s h none m i)
    ∙ sym (append_assoc (gather as_version log) (flat_map (installed_by log) (gather as_ended log)) (installs_at (status_written log t) o))

-- ---- all facts

same_facts : (a b : Facts) → a.epoch ≡ b.epoch → a.floor ≡ b.floor → a.entries ≡ b.entries → a.installs ≡ b.installs → a.horizon ≡ b.horizon
    → a.retired ≡ b.retired → a ≡ b
same_facts a b p q r s t u = λ i. record { epoch = p i; floor = q i; entries = r i; installs = s i; horizon = t i; retired = u i }

-- the last retirement, with one record more
last_more : (former : Option Id) (ts us : List Id) → last_id former (ts ++ us) ≡ last_id (last_id former ts) us
last_more former [] us = refl
last_more former (t ∷ ts) us = last_more (Some t) ts us

retired_more : (log : List Record) (r : Record) → retired_of (log ++ r ∷ []) ≡ last_id (retired_of log) (gather as_retired (r ∷ []))
retired_more log r = ap (last_id None) (gather_append as_retired log (r ∷ [])) ∙ last_more None (gather as_retired log) (gather as_retired (r ∷ []))

-- the entries that are kept, with one record more
keeps_rest : (below : Id) (e t : Id) → older e below ≡ true → older t below ≡ false → (same_id e t ≡ false) × (older e t ≡ true)
keeps_rest below e t under above = (grind (arith, nat_tests), grind (arith, nat_tests))

kept_with : (below : Option Id) (es : List TxnStatus) (t : Id) (s : Status) → is_below below t ≡ false →
    kept_entries below (with_status es t s) ≡ with_status (kept_entries below es) t s
kept_with below [] t s kept = ap (λ b. cond (not b) (record { txn = t; status = s } ∷ []) []) kept
kept_with None es t s kept = all_kept (with_status es t s) ∙ ap (λ l. with_status l t s) (sym (all_kept es))
  where
    all_kept : (l : List TxnStatus) → kept_entries None l ≡ l
    all_kept [] = refl
    all_kept (x ∷ l) = ap (λ m. x ∷ m) (all_kept l)
kept_with (Some below) (e ∷ es) t s kept = by_tests (older e.txn below) refl (kept_with (Some below) es t s kept)
  where
    new : TxnStatus
    new = record { txn = t; status = s }

    rest : List TxnStatus
    rest = kept_entries (Some below) es

    more : List TxnStatus
    more = kept_entries (Some below) (with_status es t s)

    by_place : (a b : Bool) → older e.txn below ≡ false → more ≡ with_status rest t s →
        kept_entries (Some below) (cond a (new ∷ es) (cond b (e ∷ with_status es t s) (new ∷ e ∷ es)))
        ≡ cond a (new ∷ rest) (cond b (e ∷ with_status rest t s) (new ∷ e ∷ rest))
    by_place true b p step = ap (λ k. cond (not k) (new ∷ rest) rest) kept
    by_place false true p step = ap (λ k. cond (not k) (e ∷ more) more) p ∙ ap (λ l. e ∷ l) step
    by_place false false p step =
        ap (λ k. cond (not k) (new ∷ kept_entries (Some below) (e ∷ es)) (kept_entries (Some below) (e ∷ es))) kept
        ∙ ap (λ k. new ∷ cond (not k) (e ∷ rest) rest) p

    by_tests : (k : Bool) → older e.txn below ≡ k → more ≡ with_status rest t s →
        kept_entries (Some below) (with_status (e ∷ es) t s) ≡ with_status (cond (not k) (e ∷ rest) rest) t s
    by_tests true p step =
        let apart = keeps_rest below e.txn t p kept in
        ap (λ b. kept_entries (Some below) (cond b (new ∷ es) (cond (older e.txn t) (e ∷ with_status es t s) (new ∷ e ∷ es)))) apart.0
        ∙ ap (λ b. kept_entries (Some below) (cond b (e ∷ with_status es t s) (new ∷ e ∷ es))) apart.1
        ∙ ap (λ b. cond (not b) (e ∷ more) more) p
        ∙ step
    by_tests false p step = by_place (same_id e.txn t) (older e.txn t) p step

entries_stay : (log : List Record) (r : Record) → gather id_in (r ∷ []) ≡ [] → gather as_retired (r ∷ []) ≡ [] →
    kept_entries (retired_of (log ++ r ∷ [])) (written (log ++ r ∷ [])) ≡ kept_entries (retired_of log) (written log)
entries_stay log r none still =
    ap (λ b. kept_entries b (written (log ++ r ∷ []))) (retired_more log r ∙ ap (last_id (retired_of log)) still)
    ∙ ap (kept_entries (retired_of log)) (written_stay log r none)

entries_change : (log : List Record) (r : Record) (t : Id) (s : Status) → gather id_in (r ∷ []) ≡ t ∷ [] → gather as_retired (r ∷ []) ≡ [] →
    is_below (retired_of log) t ≡ false → status_written (log ++ r ∷ []) t ≡ s →
    kept_entries (retired_of (log ++ r ∷ [])) (written (log ++ r ∷ [])) ≡ with_status (kept_entries (retired_of log) (written log)) t s
entries_change log r t s one still kept new =
    ap (λ b. kept_entries b (written (log ++ r ∷ []))) (retired_more log r ∙ ap (last_id (retired_of log)) still)
    ∙ ap (kept_entries (retired_of log)) (written_change log r t s one new)
    ∙ kept_with (retired_of log) (written log) t s kept

-- of those that are kept fewer are kept from then on
kept_higher : (former : Option Id) (below : Id) (es : List TxnStatus) → rises former below ≡ true →
    kept_entries (Some below) es ≡ kept_entries (Some below) (kept_entries former es)
kept_higher None below es up = ap (kept_entries (Some below)) (sym (all_kept es))
  where
    all_kept : (l : List TxnStatus) → kept_entries None l ≡ l
    all_kept [] = refl
    all_kept (x ∷ l) = ap (λ m. x ∷ m) (all_kept l)
kept_higher (Some former) below [] up = refl
kept_higher (Some former) below (e ∷ es) up = by_tests (older e.txn former) refl (kept_higher (Some former) below es up)
  where
    by_tests : (k : Bool) → older e.txn former ≡ k → kept_entries (Some below) es ≡ kept_entries (Some below) (kept_entries (Some former) es) →
        kept_entries (Some below) (e ∷ es)
        ≡ kept_entries (Some below) (cond (not k) (e ∷ kept_entries (Some former) es) (kept_entries (Some former) es))
    by_tests true p rest =
        let gone : older e.txn below ≡ true = grind (arith, nat_tests) in
        ap (λ b. cond (not b) (e ∷ kept_entries (Some below) es) (kept_entries (Some below) es)) gone ∙ rest
    by_tests false p rest = ap (λ l. cond (not (older e.txn below)) (e ∷ l) l) rest

entries_retired : (shard : ℕ) (log : List Record) (below : Id) → follows shard log (Retired below) ≡ true →
    kept_entries (retired_of (log ++ Retired below ∷ [])) (written (log ++ Retired below ∷ []))
    ≡ kept_entries (Some below) (kept_entries (retired_of log) (written log))
unfolding follows
entries_retired shard log below up =
    ap (λ b. kept_entries b (written (log ++ Retired below ∷ []))) (retired_more log (Retired below))
    ∙ ap (kept_entries (Some below)) (written_stay log (Retired below) refl)
    ∙ kept_higher (retired_of log) below (written log) up

-- the status that the facts give of an id that is not retired
recorded_kept : (log : List Record) (t : Id) → is_below (retired_of log) t ≡ false → recorded (facts_of log) t ≡ status_written log t
unfolding status_of
recorded_kept log t kept = recorded_is log t ∙ ap (λ b. cond b Unrecorded (status_written log t)) kept

not_false : (b : Bool) → not b ≡ true → b ≡ false
not_false true e = cc
not_false false e = refl

pub learns : (shard : ℕ) (log : List Record) (r : Record) → Sound log → follows shard log r ≡ true → facts_of (log ++ r ∷ []) ≡ learn (facts_of log) r
unfolding facts_of learn written entries_by epoch_after
learns shard log (Opened e) s h =
    same_facts _ _ (epoch_more shard log (Opened e) h) (floor_more log (Opened e)) (entries_stay log (Opened e) refl refl)
    (installs_stay shard log (Opened e) s h refl refl) (horizon_more log (Opened e)) (retired_more log (Opened e))
learns shard log (Ceiling at) s h =
    same_facts _ _ (epoch_more shard log (Ceiling at) h) (floor_more log (Ceiling at)) (entries_stay log (Ceiling at) refl refl)
    (installs_stay shard log (Ceiling at) s h refl refl) (horizon_more log (Ceiling at)) (retired_more log (Ceiling at))
learns shard log (Retired least) s h =
    same_facts _ _ (epoch_more shard log (Retired least) h) (floor_more log (Retired least)) (entries_retired shard log least h)
    (installs_stay shard log (Retired least) s h refl refl) (horizon_more log (Retired least)) (retired_more log (Retired least))
learns shard log (Horizon at) s h =
    same_facts _ _ (epoch_more shard log (Horizon at) h) (floor_more log (Horizon at)) (entries_stay log (Horizon at) refl refl)
    (installs_stay shard log (Horizon at) s h refl refl) (horizon_more log (Horizon at)) (retired_more log (Horizon at))
learns shard log (Base epoch floor horizon) s h =
    same_facts _ _ (epoch_more shard log (Base epoch floor horizon) h) (floor_more log (Base epoch floor horizon))
    (entries_stay log (Base epoch floor horizon) refl refl)
    (installs_stay shard log (Base epoch floor horizon) s h refl refl) (horizon_more log (Base epoch floor horizon)) (retired_more log (Base epoch floor horizon))
learns shard log (Version install) s h =
    same_facts _ _ (epoch_more shard log (Version install) h) (floor_more log (Version install)) (entries_stay log (Version install) refl refl)
    (version_installs shard log install s h) (horizon_more log (Version install)) (retired_more log (Version install))
learns shard log (Settled t at parts) s h =
    let r : Record = Settled t at parts in
    let u : Untouched log t = new_untouched log t s (new_facts log t (settled_new shard log t at parts h)) in
    same_facts _ _ (epoch_more shard log r h) (floor_more log r)
    (entries_change log r t (HasSettled at parts) refl refl (settled_kept shard log t at parts h) (settled_status log t at parts u))
    (ended_installs shard log r (record { txn = t; outcome = Some at }) s h refl refl (settled_bare log t at parts u)) (horizon_more log r) (retired_more log r)
learns shard log (Closed t coordinator outcome) s h =
    let r : Record = Closed t coordinator outcome in
    let u : Untouched log t = new_untouched log t s (new_facts log t (closed_new shard log t coordinator outcome h)) in
    same_facts _ _ (epoch_more shard log r h) (floor_more log r)
    (entries_change log r t (HasClosed coordinator outcome) refl refl (closed_kept shard log t coordinator outcome h) (closed_status log t coordinator outcome u))
    (ended_installs shard log r (record { txn = t; outcome = outcome }) s h refl refl (closed_bare log t coordinator outcome u)) (horizon_more log r) (retired_more log r)
learns shard log (Prepare p) s h =
    same_facts _ _ (epoch_more shard log (Prepare p) h) (floor_more log (Prepare p))
    (entries_change log (Prepare p) p.txn (StandsPrepared p) refl refl (prepare_kept shard log p h)
    (prepared_status log p (new_untouched log p.txn s (new_facts log p.txn (prepare_new shard log p h)))))
    (installs_stay shard log (Prepare p) s h refl refl) (horizon_more log (Prepare p)) (retired_more log (Prepare p))
learns shard log (Commit c) s h =
    same_facts _ _ (epoch_more shard log (Commit c) h) (floor_more log (Commit c))
    (entries_change log (Commit c) c.txn (StandsDecided c) refl refl (commit_kept shard log c h)
    (decided_status log c (new_untouched log c.txn s (new_facts log c.txn (commit_new shard log c h)))))
    (installs_stay shard log (Commit c) s h refl refl) (horizon_more log (Commit c)) (retired_more log (Commit c))
learns shard log (Abort t) s h =
    same_facts _ _ (epoch_more shard log (Abort t) h) (floor_more log (Abort t))
    (entries_change log (Abort t) t HasAborted refl refl (abort_kept shard log t h) (aborted_status log t))
    (installs_stay shard log (Abort t) s h refl refl) (horizon_more log (Abort t)) (retired_more log (Abort t))
learns shard log (Outcome t o) s h =
    let none : ended_of log t ≡ None = is_none _ (not_false _ ((outcome_follows shard log t o h).0)) in
    let m : made log t ≡ true = outcome_made log t o ((outcome_follows shard log t o h).1) in
    same_facts _ _ (epoch_more shard log (Outcome t o) h) (floor_more log (Outcome t o))
    (entries_change log (Outcome t o) t _ refl refl (outcome_kept shard log t o h) (ended_status log t o none) ∙ ap (λ x. with_status (kept_entries (retired_of log) (written log)) t (after_outcome x o))
    (sym (recorded_kept log t (outcome_kept shard log t o h))))
    (installs_change shard log t o s h none m ∙ ap (λ x. installs_of log ++ installs_at x o) (sym (recorded_kept log t (outcome_kept shard log t o h)))) (horizon_more log (Outcome t o)) (retired_more log (Outcome t o))

-- ---- whole lists

append_one : {A : Type 0} (xs : List A) (x : A) (ys : List A) → (xs ++ x ∷ []) ++ ys ≡ xs ++ x ∷ ys
append_one [] x ys = refl
append_one (w ∷ ws) x ys = ap (λ l. w ∷ l) (append_one ws x ys)

-- a list that is followed to its end is sound, and so is its last record
last_follows : (shard : ℕ) (before log : List Record) (r : Record) → Sound before → followed_from shard before (log ++ r ∷ []) ≡ true →
    Sound (before ++ log) × (follows shard (before ++ log) r ≡ true)
last_follows shard before [] r s h =
    (subst Sound (sym (append-nil before)) s, subst (λ l. follows shard l r ≡ true) (sym (append-nil before)) ((and_parts _ _ ((and_parts _ _ h).0)).1))
last_follows shard before (q ∷ qs) r s h =
    let p : Sound ((before ++ q ∷ []) ++ qs) × (follows shard ((before ++ q ∷ []) ++ qs) r ≡ true) =
    last_follows shard (before ++ q ∷ []) qs r (sound_more shard before q s ((and_parts _ _ ((and_parts _ _ h).0)).1)) ((and_parts _ _ h).1) in
    subst (λ l. Sound l × (follows shard l r ≡ true)) (append_one before q qs) p

pub learn_agrees : LearnAgrees
unfolding followed
learn_agrees shard log r h =
    let p : Sound log × (follows shard log r ≡ true) = last_follows shard [] log r sound_empty h in learns shard log r p.0 p.1

learnt_from : (shard : ℕ) (before log : List Record) → Sound before → followed_from shard before log ≡ true →
    learnt (facts_of before) log ≡ facts_of (before ++ log)
learnt_from shard before [] s h = ap facts_of (sym (append-nil before))
learnt_from shard before (r ∷ rs) s h =
    let f : follows shard before r ≡ true = (and_parts _ _ ((and_parts _ _ h).0)).1 in
    ap (λ facts. learnt facts rs) (sym (learns shard before r s f))
    ∙ learnt_from shard (before ++ r ∷ []) rs (sound_more shard before r s f) ((and_parts _ _ h).1)
    ∙ ap facts_of (append_one before r rs)

pub learnt_agrees : LearntAgrees
unfolding followed
learnt_agrees shard log h = learnt_from shard [] log sound_empty h

-- ---- what is accepted is followed

taken_step : (a b : Bool) (place : ℕ) (rest : Taken) → cond a (StrangerAt place) (cond b rest (DamagedAt place)) ≡ Accepted → (b ≡ true) × (rest ≡ Accepted)
taken_step true b place rest e = cc
taken_step false true place rest e = (refl, e)
taken_step false false place rest e = cc

followed_next : (setup : Setup) (before : List Record) (place : ℕ) (log : List Record) → taken_from setup before place log ≡ Accepted →
    followed_from setup.shard before log ≡ true
followed_next setup before place [] e = refl
followed_next setup before place (r ∷ rs) e =
    let p : ((begins before r && follows setup.shard before r && fits_beside before r) ≡ true)
    × (taken_from setup (before ++ r ∷ []) (place + 1) rs ≡ Accepted) =
    taken_step (not (belongs setup r)) (begins before r && follows setup.shard before r && fits_beside before r) place _ e in
    ap (λ b. b && followed_from setup.shard (before ++ r ∷ []) rs) ((and_parts _ _ p.0).0) ∙ followed_next setup (before ++ r ∷ []) (place + 1) rs p.1

pub accepted_follows : AcceptedFollows
unfolding taken followed
accepted_follows setup log e = followed_next setup [] 0 log e

-- ---- a list that is followed, and one more record

and_turned : (a b c : Bool) → ((a && b) && c) ≡ (a && (b && c))
and_turned true b c = refl
and_turned false b c = refl

followed_one_more : (shard : ℕ) (before log : List Record) (r : Record) →
    followed_from shard before (log ++ r ∷ []) ≡ (followed_from shard before log && (begins (before ++ log) r && follows shard (before ++ log) r))
followed_one_more shard before [] r =
    all_true (begins before r && follows shard before r) ∙ ap (λ l. begins l r && follows shard l r) (sym (append-nil before))
  where
    all_true : (b : Bool) → (b && true) ≡ b
    all_true true = refl
    all_true false = refl
followed_one_more shard before (q ∷ qs) r =
    ap (λ b. (begins before q && follows shard before q) && b)
    (followed_one_more shard (before ++ q ∷ []) qs r
    ∙ ap (λ l. followed_from shard (before ++ q ∷ []) qs && (begins l r && follows shard l r)) (append_one before q qs))
    ∙ sym (and_turned (begins before q && follows shard before q) _ _)

-- a list with one more record is followed where the list is, and the record follows it
pub followed_more : (shard : ℕ) (log : List Record) (r : Record) → followed shard (log ++ r ∷ []) ≡
    (followed shard log && (begins log r && follows shard log r))
unfolding followed
followed_more shard log r = followed_one_more shard [] log r
