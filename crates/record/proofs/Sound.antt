-- What holds of a log whose records each follow those before it: who ended was promised or decided, and who was aborted was
-- neither.
use Rattle.std.specs.List.{list_any}
use Rattle.std.proofs.Common.{refl, sym, ◌∙◌, ap, subst}
use Rattle.std.specs.Prelude.{ℕ, ◌+◌, ◌≡◌, Bool, true, false, not, cond, ◌||◌, nat_eq, List, [], ◌∷◌, ◌++◌, Option, Some, None}
use Rattle.std.proofs.lemmas.Bool.{and_parts, or_right, false≢true}
use Rattle.std.proofs.Math.Bool.{or-false}
use Rattle.units.specs.Lists.{gather, first, head}
use Rattle.units.specs.Ids.{Id, same_id}
use Rattle.units.specs.declared.writes.Install.{Install}
use Rattle.units.proofs.Folds.{or_else, is_there, there_or_else, gather_append, first_append, any_append}
use Rattle.units.proofs.IdLaws.{same_id-is}
use Rattle.record.specs.Accepted.{is_new, is_kept, outcome_fits, follows, is_next, is_start, goes_on}
use Rattle.record.specs.Records.{Ended, Unrecorded, as_prepared, as_committed, as_aborted, as_ended, prepared_of, committed_of, is_aborted, ended_of}
use Rattle.record.specs.Records.{status_by, status_written, retired_of, is_below, epoch_of, settled_decision, closed_promise}
use Rattle.record.specs.declared.record.Committed.{Committed}
use Rattle.record.specs.declared.record.Prepared.{Prepared}
use Rattle.record.specs.declared.record.Record.{Record}
use Rattle.record.specs.declared.record.Record.TheVariants.{Opened, Ceiling, Prepare, Commit, Abort, Outcome, Horizon, Base, Version, Settled, Closed, Retired}

-- ---- one more record

pub aborted_more : (log : List Record) (r : Record) (t : Id) → is_aborted (log ++ r ∷ []) t ≡ (is_aborted log t || is_aborted (r ∷ []) t)
aborted_more log r t =
    ap (λ l. list_any (same_id t) l) (gather_append as_aborted log (r ∷ []))
    ∙ any_append (same_id t) (gather as_aborted log) (gather as_aborted (r ∷ []))

pub prepared_more : (log : List Record) (r : Record) (t : Id) → prepared_of (log ++ r ∷ []) t ≡ or_else (prepared_of log t) (prepared_of (r ∷ []) t)
prepared_more log r t =
    ap (λ l. first (λ p. same_id p.txn t) l) (gather_append as_prepared log (r ∷ []))
    ∙ first_append (λ p. same_id p.txn t) (gather as_prepared log) (gather as_prepared (r ∷ []))

pub committed_more : (log : List Record) (r : Record) (t : Id) → committed_of (log ++ r ∷ []) t ≡ or_else (committed_of log t) (committed_of (r ∷ []) t)
committed_more log r t =
    ap (λ l. first (λ c. same_id c.txn t) l) (gather_append as_committed log (r ∷ []))
    ∙ first_append (λ c. same_id c.txn t) (gather as_committed log) (gather as_committed (r ∷ []))

pub ended_more : (log : List Record) (r : Record) (t : Id) → ended_of (log ++ r ∷ []) t ≡ or_else (ended_of log t) (ended_of (r ∷ []) t)
ended_more log r t =
    ap (λ l. first (λ e. same_id e.txn t) l) (gather_append as_ended log (r ∷ []))
    ∙ first_append (λ e. same_id e.txn t) (gather as_ended log) (gather as_ended (r ∷ []))

-- ---- a promise or a decision

-- the log has a promise or a decision of an id
unfoldable pub made : List Record → Id → Bool
made log t = is_there (prepared_of log t) || is_there (committed_of log t)

turned : (a b c d : Bool) → ((a || b) || (c || d)) ≡ ((a || c) || (b || d))
turned true b c d = refl
turned false true true d = refl
turned false true false d = refl
turned false false c d = refl

pub made_more : (log : List Record) (r : Record) (t : Id) → made (log ++ r ∷ []) t ≡ (made log t || made (r ∷ []) t)
unfolding made
made_more log r t =
    ap (λ o. is_there o || is_there (committed_of (log ++ r ∷ []) t)) (prepared_more log r t)
    ∙ ap (λ o. is_there (or_else (prepared_of log t) (prepared_of (r ∷ []) t)) || is_there o) (committed_more log r t)
    ∙ ap (λ b. b || is_there (or_else (committed_of log t) (committed_of (r ∷ []) t))) (there_or_else (prepared_of log t) (prepared_of (r ∷ []) t))
    ∙ ap (λ b. (is_there (prepared_of log t) || is_there (prepared_of (r ∷ []) t)) || b) (there_or_else (committed_of log t) (committed_of (r ∷ []) t))
    ∙ turned (is_there (prepared_of log t)) (is_there (prepared_of (r ∷ []) t)) (is_there (committed_of log t)) (is_there (committed_of (r ∷ []) t))

-- who is new has neither an abort nor a promise nor a decision
new_by : (a : Bool) (c : Option Committed) (p : Option Prepared) (e : Option Ended) →
    (elim (status_by a c p e) as (λ s. Bool) [ Unrecorded ↦ true | _ ↦ false ]) ≡ true → (a ≡ false) × ((is_there p || is_there c) ≡ false)
new_by true c p e h = cc
new_by false (Some c) p (Some e) h = cc
new_by false (Some c) p None h = cc
new_by false None (Some p) (Some e) h = cc
new_by false None (Some p) None h = cc
new_by false None None e h = (refl, refl)

pub new_facts : (log : List Record) (t : Id) → is_new log t ≡ true → (is_aborted log t ≡ false) × (made log t ≡ false)
unfolding status_written made
new_facts log t h = new_by (is_aborted log t) (committed_of log t) (prepared_of log t) (ended_of log t) ((and_parts _ _ h).0)

fits_made : (p : Option Prepared) (c : Option Committed) (o : Option ℕ) → outcome_fits p c o ≡ true → (is_there p || is_there c) ≡ true
fits_made (Some p) c o h = refl
fits_made None (Some c) o h = refl
fits_made None None None h = cc
fits_made None None (Some s) h = cc

pub outcome_made : (log : List Record) (t : Id) (o : Option ℕ) → outcome_fits (prepared_of log t) (committed_of log t) o ≡ true → made log t ≡ true
unfolding made
outcome_made log t o h = fits_made (prepared_of log t) (committed_of log t) o h

-- ---- what follows

pub prepare_new : (shard : ℕ) (log : List Record) (p : Prepared) → follows shard log (Prepare p) ≡ true → is_new log p.txn ≡ true
unfolding follows
prepare_new shard log p h = (and_parts _ _ ((and_parts _ _ h).0)).1

pub commit_new : (shard : ℕ) (log : List Record) (c : Committed) → follows shard log (Commit c) ≡ true → is_new log c.txn ≡ true
unfolding follows
commit_new shard log c h = (and_parts _ _ ((and_parts _ _ h).0)).1

pub abort_new : (shard : ℕ) (log : List Record) (t : Id) → follows shard log (Abort t) ≡ true → is_new log t ≡ true
unfolding follows
abort_new shard log t h = h

pub settled_new : (shard : ℕ) (log : List Record) (t : Id) (at : ℕ) (parts : List ℕ) → follows shard log (Settled t at parts) ≡ true → is_new log t ≡ true
unfolding follows
settled_new shard log t at parts h = (and_parts _ _ ((and_parts _ _ h).0)).1

pub closed_new : (shard : ℕ) (log : List Record) (t : Id) (coordinator : ℕ) (outcome : Option ℕ) →
    follows shard log (Closed t coordinator outcome) ≡ true → is_new log t ≡ true
unfolding follows
closed_new shard log t coordinator outcome h = (and_parts _ _ ((and_parts _ _ h).0)).1

pub outcome_follows : (shard : ℕ) (log : List Record) (t : Id) (o : Option ℕ) → follows shard log (Outcome t o) ≡ true →
    (not (is_there (ended_of log t)) ≡ true) × (outcome_fits (prepared_of log t) (committed_of log t) o ≡ true)
unfolding follows
outcome_follows shard log t o h = and_parts _ _ ((and_parts _ _ h).0)

-- what is logged of an id is logged before it is retired
pub not_below : (log : List Record) (t : Id) → is_kept (retired_of log) t ≡ true → is_below (retired_of log) t ≡ false
not_below log t h = by_test (is_below (retired_of log) t) h
  where
    by_test : (b : Bool) → not b ≡ true → b ≡ false
    by_test true e = cc
    by_test false e = refl

pub prepare_kept : (shard : ℕ) (log : List Record) (p : Prepared) → follows shard log (Prepare p) ≡ true → is_below (retired_of log) p.txn ≡ false
unfolding follows
prepare_kept shard log p h = not_below log p.txn ((and_parts _ _ (prepare_new shard log p h)).1)

pub commit_kept : (shard : ℕ) (log : List Record) (c : Committed) → follows shard log (Commit c) ≡ true → is_below (retired_of log) c.txn ≡ false
unfolding follows
commit_kept shard log c h = not_below log c.txn ((and_parts _ _ (commit_new shard log c h)).1)

pub abort_kept : (shard : ℕ) (log : List Record) (t : Id) → follows shard log (Abort t) ≡ true → is_below (retired_of log) t ≡ false
unfolding follows
abort_kept shard log t h = not_below log t ((and_parts _ _ (abort_new shard log t h)).1)

pub settled_kept : (shard : ℕ) (log : List Record) (t : Id) (at : ℕ) (parts : List ℕ) → follows shard log (Settled t at parts) ≡ true
    → is_below (retired_of log) t ≡ false
unfolding follows
settled_kept shard log t at parts h = not_below log t ((and_parts _ _ (settled_new shard log t at parts h)).1)

pub closed_kept : (shard : ℕ) (log : List Record) (t : Id) (coordinator : ℕ) (outcome : Option ℕ) →
    follows shard log (Closed t coordinator outcome) ≡ true → is_below (retired_of log) t ≡ false
unfolding follows
closed_kept shard log t coordinator outcome h = not_below log t ((and_parts _ _ (closed_new shard log t coordinator outcome h)).1)

pub outcome_kept : (shard : ℕ) (log : List Record) (t : Id) (o : Option ℕ) → follows shard log (Outcome t o) ≡ true → is_below (retired_of log) t ≡ false
unfolding follows
outcome_kept shard log t o h = not_below log t ((and_parts _ _ h).1)

pub opened_follows : (shard : ℕ) (log : List Record) (epoch : ℕ) → follows shard log (Opened epoch) ≡ true → nat_eq epoch (epoch_of log + 1) ≡ true
unfolding follows
opened_follows shard log epoch h = h

-- ---- the invariant

-- who ended was promised or decided; who was aborted was neither; and nobody ended where a version may come
pub record Sound (log : List Record) : Type 0 where
  pub closed : (t : Id) → is_there (ended_of log t) ≡ true → made log t ≡ true
  pub apart : (t : Id) → is_aborted log t ≡ true → made log t ≡ false
  pub head : (v : Install) → is_next log v ≡ true → gather as_ended log ≡ []

or_left : (a b : Bool) → a ≡ true → (a || b) ≡ true
or_left true b e = refl
or_left false b e = cc

-- how an id ended
ended_one : Id → Option ℕ → Ended
ended_one t outcome = record { txn = t; outcome = outcome }

-- a single record of an id
pub single : {A : Type 0} (b : Bool) (x : A) → is_there (head (cond b (x ∷ []) [])) ≡ b
single true x = refl
single false x = refl

-- the outcome of an id follows its promise or decision, or comes with what is left of it
ended_made : (shard : ℕ) (log : List Record) (r : Record) (t : Id) → follows shard log r ≡ true → is_there (ended_of (r ∷ []) t) ≡ true →
    (made log t || made (r ∷ []) t) ≡ true
unfolding made ended_one
ended_made shard log (Opened e) t h there = cc
ended_made shard log (Ceiling at) t h there = cc
ended_made shard log (Retired least) t h there = cc
ended_made shard log (Horizon at) t h there = cc
ended_made shard log (Base epoch floor horizon) t h there = cc
ended_made shard log (Version install) t h there = cc
ended_made shard log (Settled u at parts) t h there =
    or_right (made log t) _ (single (same_id u t) (settled_decision u at parts) ∙ sym (single (same_id u t) (ended_one u (Some at))) ∙ there)
ended_made shard log (Closed u coordinator outcome) t h there =
    or_right (made log t) _ (or-false _ ∙ single (same_id u t) (closed_promise u coordinator outcome) ∙ sym (single (same_id u t) (ended_one u outcome))
    ∙ there)
ended_made shard log (Prepare p) t h there = cc
ended_made shard log (Commit c) t h there = cc
ended_made shard log (Abort u) t h there = cc
ended_made shard log (Outcome u o) t h there =
    let same : u ≡ t = same_id-is u t (sym (single (same_id u t) _) ∙ there) in
    or_left (made log t) _ (subst (λ v. made log v ≡ true) same (outcome_made log u o ((outcome_follows shard log u o h).1)))

-- an abort makes nothing, and comes of an id of which nothing is made
aborted_unmade : (shard : ℕ) (log : List Record) (r : Record) (t : Id) → follows shard log r ≡ true → is_aborted (r ∷ []) t ≡ true →
    (made log t ≡ false) × (made (r ∷ []) t ≡ false)
unfolding made
aborted_unmade shard log (Opened e) t h there = cc
aborted_unmade shard log (Ceiling at) t h there = cc
aborted_unmade shard log (Retired least) t h there = cc
aborted_unmade shard log (Horizon at) t h there = cc
aborted_unmade shard log (Base epoch floor horizon) t h there = cc
aborted_unmade shard log (Version install) t h there = cc
aborted_unmade shard log (Settled u at parts) t h there = cc
aborted_unmade shard log (Closed u coordinator outcome) t h there = cc
aborted_unmade shard log (Prepare p) t h there = cc
aborted_unmade shard log (Commit c) t h there = cc
aborted_unmade shard log (Abort u) t h there =
    let same : t ≡ u = same_id-is t u (sym (or-false (same_id t u)) ∙ there) in
    (subst (λ v. made log v ≡ false) (sym same) ((new_facts log u (abort_new shard log u h)).1), refl)
aborted_unmade shard log (Outcome u o) t h there = cc

-- a promise or a decision comes of an id that is not aborted
made_unaborted : (shard : ℕ) (log : List Record) (r : Record) (t : Id) → follows shard log r ≡ true → made (r ∷ []) t ≡ true → is_aborted log t ≡ false
unfolding made
made_unaborted shard log (Opened e) t h there = cc
made_unaborted shard log (Ceiling at) t h there = cc
made_unaborted shard log (Retired least) t h there = cc
made_unaborted shard log (Horizon at) t h there = cc
made_unaborted shard log (Base epoch floor horizon) t h there = cc
made_unaborted shard log (Version install) t h there = cc
made_unaborted shard log (Settled u at parts) t h there =
    let same : u ≡ t = same_id-is u t (sym (single (same_id u t) (settled_decision u at parts)) ∙ there) in
    subst (λ v. is_aborted log v ≡ false) same ((new_facts log u (settled_new shard log u at parts h)).0)
made_unaborted shard log (Closed u coordinator outcome) t h there =
    let same : u ≡ t = same_id-is u t (sym (single (same_id u t) (closed_promise u coordinator outcome)) ∙ (sym (or-false _) ∙ there)) in
    subst (λ v. is_aborted log v ≡ false) same ((new_facts log u (closed_new shard log u coordinator outcome h)).0)
made_unaborted shard log (Prepare p) t h there =
    let same : p.txn ≡ t = same_id-is p.txn t (sym (single (same_id p.txn t) p) ∙ (sym (or-false _) ∙ there)) in
    subst (λ v. is_aborted log v ≡ false) same ((new_facts log p.txn (prepare_new shard log p h)).0)
made_unaborted shard log (Commit c) t h there =
    let same : c.txn ≡ t = same_id-is c.txn t (sym (single (same_id c.txn t) c) ∙ there) in
    subst (λ v. is_aborted log v ≡ false) same ((new_facts log c.txn (commit_new shard log c h)).0)
made_unaborted shard log (Abort u) t h there = cc
made_unaborted shard log (Outcome u o) t h there = cc

closed_by : (e f m n : Bool) → (e ≡ true → m ≡ true) → (f ≡ true → (m || n) ≡ true) → (e || f) ≡ true → (m || n) ≡ true
closed_by true f m n g h k = or_left m n (g refl)
closed_by false true m n g h k = h refl
closed_by false false m n g h k = cc

apart_by : (a b m n : Bool) → (a ≡ true → m ≡ false) → (b ≡ true → (m ≡ false) × (n ≡ false)) → (n ≡ true → a ≡ false) → (a || b) ≡ true → (m || n) ≡ false
apart_by true b m true g h k there = absurd (false≢true (sym (k refl)))
apart_by true b m false g h k there = ap (λ x. x || false) (g refl)
apart_by false true m n g h k there = ap (λ x. x || n) ((h refl).0) ∙ (h refl).1
apart_by false false m n g h k there = cc

-- ---- the head

-- a version comes behind the last record
pub next_last : (log : List Record) (r : Record) (v : Install) → is_next (log ++ r ∷ []) v ≡ goes_on r v
next_last [] r v = refl
next_last (x ∷ []) r v = refl
next_last (x ∷ y ∷ rest) r v = next_last (y ∷ rest) r v

-- a base comes first
pub start_none : (log : List Record) → is_start log ≡ true → log ≡ []
start_none [] h = refl
start_none (x ∷ xs) h = cc

pub base_first : (shard : ℕ) (log : List Record) (e f n : ℕ) → follows shard log (Base e f n) ≡ true → log ≡ []
unfolding follows
base_first shard log e f n h = start_none log ((and_parts _ _ ((and_parts _ _ h).0)).0)

pub version_next : (shard : ℕ) (log : List Record) (v : Install) → follows shard log (Version v) ≡ true → is_next log v ≡ true
unfolding follows
version_next shard log v h = h

head_more : (shard : ℕ) (log : List Record) (r : Record) → Sound log → follows shard log r ≡ true → (v : Install) → goes_on r v ≡ true →
    gather as_ended (log ++ r ∷ []) ≡ []
head_more shard log (Opened e) s h v goes = cc
head_more shard log (Ceiling at) s h v goes = cc
head_more shard log (Retired least) s h v goes = cc
head_more shard log (Horizon at) s h v goes = cc
head_more shard log (Prepare p) s h v goes = cc
head_more shard log (Commit c) s h v goes = cc
head_more shard log (Abort t) s h v goes = cc
head_more shard log (Outcome t o) s h v goes = cc
head_more shard log (Base e f n) s h v goes =
    ap (λ l. gather as_ended (l ++ Base e f n ∷ [])) (base_first shard log e f n h)
head_more shard log (Version w) s h v goes =
    gather_append as_ended log (Version w ∷ []) ∙ ap (λ l. l ++ []) (s.head w (version_next shard log w h))
head_more shard log (Settled t at parts) s h v goes = cc
head_more shard log (Closed t coordinator outcome) s h v goes = cc

pub sound_more : (shard : ℕ) (log : List Record) (r : Record) → Sound log → follows shard log r ≡ true → Sound (log ++ r ∷ [])
sound_more shard log r s h =
    record {
      closed = λ t there. made_more log r t ∙ closed_by (is_there (ended_of log t)) (is_there (ended_of (r ∷ []) t)) (made log t) (made (r ∷ []) t)
          (s.closed t) (ended_made shard log r t h)
          (sym (ap (λ o. is_there o) (ended_more log r t) ∙ there_or_else (ended_of log t) (ended_of (r ∷ []) t)) ∙ there);
      apart = λ t there. made_more log r t ∙ apart_by (is_aborted log t) (is_aborted (r ∷ []) t) (made log t) (made (r ∷ []) t)
          (s.apart t) (aborted_unmade shard log r t h) (made_unaborted shard log r t h)
          (sym (aborted_more log r t) ∙ there);
      head = λ v there. head_more shard log r s h v (sym (next_last log r v) ∙ there);
    }

pub sound_empty : Sound []
unfolding made
sound_empty = record { closed = λ t there. cc; apart = λ t there. refl; head = λ v there. cc }
