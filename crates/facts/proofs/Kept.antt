-- What each record that follows keeps of a log: no id is both promised and decided, a decision's outcome is at its
-- timestamp, and only an opening comes first.
use Rattle.std.proofs.Common.{refl, sym, ◌∙◌, ap, subst, arith}
use Rattle.std.proofs.lemmas.Bool.{eqb-true, or_parts, and_parts, true≢false}
use Rattle.std.proofs.lemmas.Bool.Decides.{nat_tests}
use Rattle.std.specs.Prelude.{ℕ, ◌+◌, ◌≡◌, max, Bool, true, false, not, cond, ◌&&◌, ◌||◌, nat_lt, List, [], ◌∷◌, ◌++◌, Option, Some, None}
use Rattle.std.specs.List.{list_any}
use Rattle.std.proofs.lemmas.List.{append-nil}
use Rattle.std.proofs.Math.Bool.{or-false, and-false, or-true}
use Rattle.units.specs.Lists.{ascends, head, when}
use Rattle.units.specs.Versions.{version_before}
use Rattle.units.specs.declared.writes.Install.{Install}
use Rattle.units.specs.Ids.{Id, same_id}
use Rattle.units.proofs.Folds.{or_else, is_there, there_or_else, any_append}
use Rattle.units.proofs.IdLaws.{same_id-is}
use Rattle.record.specs.Accepted.{begins, outcome_fits, follows, followed, followed_from, is_next, goes_on, is_base, opens, may_end}
use Rattle.record.specs.Installs.{installs_of}
use Rattle.record.specs.Facts.{Facts, facts_of, learn}
use Rattle.record.specs.Records.{Ended, as_opened, prepared_of, committed_of, ended_of, epoch_of, settled_decision, closed_promise}
use Rattle.record.specs.declared.record.Committed.{Committed}
use Rattle.record.specs.declared.record.Prepared.{Prepared}
use Rattle.record.specs.declared.record.Record.{Record}
use Rattle.record.specs.declared.record.Record.TheVariants.{Opened, Ceiling, Prepare, Commit, Abort, Outcome, Horizon, Base, Version, Settled, Closed, Retired}
use Rattle.record.proofs.Sound.{Sound, sound_empty, sound_more, made, new_facts, prepare_new, commit_new, settled_new, closed_new, outcome_follows}
use Rattle.record.proofs.Sound.{opened_follows}
use Rattle.record.proofs.Sound.{prepared_more, committed_more, ended_more, single, next_last, base_first, version_next}
use Rattle.record.proofs.LearnAgrees.{learns, version_installs}
use Rattle.facts.specs.Stages.{stage_of, stage_from, stage_after, past_head, is_head, is_open, comes_behind}
use Rattle.facts.proofs.Heads.{ascends_more}
use Rattle.facts.specs.declared.stage.Stage.{Stage}
use Rattle.facts.specs.declared.stage.Stage.TheVariants.{Head, Early, Open}

-- the outcome of a decision is at its timestamp
abbrev pub Settles : Option Committed → Option Ended → Type 0
Settles (Some c) (Some e) = e.outcome ≡ Some c.at
Settles (Some c) None = Unit {0}
Settles None e = Unit {0}

-- a record is there
abbrev pub is_begun : List Record → Bool
is_begun [] = false
is_begun (r ∷ rs) = true

-- what the stage and the facts tell of the rules of a head: whether one that ended may come, and whether a version may; and the versions
-- of a head are in order
pub record IsAt (log : List Record) : Type 0 where
  pub early : may_end log ≡ (nat_lt 0 (epoch_of log) && not (is_open (stage_of log)))
  pub next : (v : Install) → is_next log v ≡ ((nat_lt 0 (epoch_of log) && is_head (stage_of log)) && comes_behind (installs_of log) v)
  pub rising : is_head (stage_of log) ≡ true → ascends version_before (installs_of log) ≡ true

pub record Kept (log : List Record) : Type 0 where
  pub sound : Sound log
  pub one : (t : Id) → (is_there (prepared_of log t) && is_there (committed_of log t)) ≡ false
  pub settles : (t : Id) → Settles (committed_of log t) (ended_of log t)
  pub begun : is_begun log ≡ nat_lt 0 (epoch_of log)
  pub at : IsAt log

-- ---- no id is both promised and decided

-- a promise or a decision comes of an id of which nothing is made
made_fresh : (shard : ℕ) (log : List Record) (r : Record) (t : Id) → follows shard log r ≡ true → made (r ∷ []) t ≡ true → made log t ≡ false
unfolding made
made_fresh shard log (Opened e) t h there = cc
made_fresh shard log (Ceiling at) t h there = cc
made_fresh shard log (Retired least) t h there = cc
made_fresh shard log (Horizon at) t h there = cc
made_fresh shard log (Prepare p) t h there =
    let same : p.txn ≡ t = same_id-is p.txn t (sym (single (same_id p.txn t) p) ∙ (sym (or-false _) ∙ there)) in
    subst (λ v. made log v ≡ false) same ((new_facts log p.txn (prepare_new shard log p h)).1)
made_fresh shard log (Commit c) t h there =
    let same : c.txn ≡ t = same_id-is c.txn t (sym (single (same_id c.txn t) c) ∙ there) in
    subst (λ v. made log v ≡ false) same ((new_facts log c.txn (commit_new shard log c h)).1)
made_fresh shard log (Abort u) t h there = cc
made_fresh shard log (Outcome u o) t h there = cc
made_fresh shard log (Base e f n) t h there = cc
made_fresh shard log (Version v) t h there = cc
made_fresh shard log (Settled u at parts) t h there =
    let same : u ≡ t = same_id-is u t (sym (single (same_id u t) (settled_decision u at parts)) ∙ there) in
    subst (λ v. made log v ≡ false) same ((new_facts log u (settled_new shard log u at parts h)).1)
made_fresh shard log (Closed u coordinator outcome) t h there =
    let same : u ≡ t = same_id-is u t (sym (single (same_id u t) (closed_promise u coordinator outcome)) ∙ (sym (or-false _) ∙ there)) in
    subst (λ v. made log v ≡ false) same ((new_facts log u (closed_new shard log u coordinator outcome h)).1)

one_single : (r : Record) (t : Id) → (is_there (prepared_of (r ∷ []) t) && is_there (committed_of (r ∷ []) t)) ≡ false
one_single (Opened e) t = refl
one_single (Ceiling at) t = refl
one_single (Retired least) t = refl
one_single (Horizon at) t = refl
one_single (Prepare p) t = and-false _
one_single (Commit c) t = refl
one_single (Abort u) t = refl
one_single (Outcome u o) t = refl
one_single (Base e f n) t = refl
one_single (Version v) t = refl
one_single (Settled u at parts) t = refl
one_single (Closed u coordinator outcome) t = and-false _

one_by : (p c q d : Bool) → (p && c) ≡ false → (q && d) ≡ false → ((q || d) ≡ true → (p || c) ≡ false) → ((p || q) && (c || d)) ≡ false
one_by true true q d h k fresh = cc
one_by true false q true h k fresh = absurd (true≢false (fresh (or-true q)))
one_by true false q false h k fresh = refl
one_by false true true d h k fresh = absurd (true≢false (fresh refl))
one_by false true false d h k fresh = refl
one_by false false q d h k fresh = k

one_more : (shard : ℕ) (log : List Record) (r : Record) → Kept log → follows shard log r ≡ true → (t : Id) →
    (is_there (prepared_of (log ++ r ∷ []) t) && is_there (committed_of (log ++ r ∷ []) t)) ≡ false
unfolding made
one_more shard log r k h t =
    ap (λ o. is_there o && is_there (committed_of (log ++ r ∷ []) t)) (prepared_more log r t)
    ∙ ap (λ o. is_there (or_else (prepared_of log t) (prepared_of (r ∷ []) t)) && is_there o) (committed_more log r t)
    ∙ ap (λ b. b && is_there (or_else (committed_of log t) (committed_of (r ∷ []) t))) (there_or_else (prepared_of log t) (prepared_of (r ∷ []) t))
    ∙ ap (λ b. (is_there (prepared_of log t) || is_there (prepared_of (r ∷ []) t)) && b) (there_or_else (committed_of log t) (committed_of (r ∷ []) t))
    ∙ one_by (is_there (prepared_of log t)) (is_there (committed_of log t)) (is_there (prepared_of (r ∷ []) t)) (is_there (committed_of (r ∷ []) t))
    (k.one t) (one_single r t) (made_fresh shard log r t h)

-- ---- outcomes of decisions

plain : (c : Option Committed) (e : Option Ended) → Settles c e → Settles (or_else c None) (or_else e None)
plain (Some c) (Some e) h = h
plain (Some c) None h = tt
plain None e h = tt

decided : (b : Bool) (c : Option Committed) (e : Option Ended) (new : Committed) → Settles c e → (b ≡ true → (is_there c ≡ false) × (is_there e ≡ false))
    → Settles (or_else c (head (cond b (new ∷ []) []))) (or_else e None)
decided b (Some c) (Some e) new h fresh = h
decided b (Some c) None new h fresh = tt
decided true None (Some e) new h fresh = absurd (true≢false ((fresh refl).1))
decided true None None new h fresh = tt
decided false None e new h fresh = tt

ends : (b : Bool) (c : Option Committed) (e : Option Ended) (new : Ended) → Settles c e → (b ≡ true → (x : Committed) → c ≡ Some x → new.outcome ≡ Some x.at)
    → Settles (or_else c None) (or_else e (head (cond b (new ∷ []) [])))
ends b (Some c) (Some e) new h fits = h
ends true (Some c) None new h fits = fits refl c refl
ends false (Some c) None new h fits = tt
ends b None e new h fits = tt

settles_both : (b : Bool) (c : Option Committed) (e : Option Ended) (new : Committed) (end : Ended) → Settles c e
    → (b ≡ true → (is_there c ≡ false) × (is_there e ≡ false)) → end.outcome ≡ Some new.at
    → Settles (or_else c (head (cond b (new ∷ []) []))) (or_else e (head (cond b (end ∷ []) [])))
settles_both b (Some c) (Some e) new end h fresh is = h
settles_both true (Some c) None new end h fresh is = absurd (true≢false ((fresh refl).0))
settles_both false (Some c) None new end h fresh is = tt
settles_both true None (Some e) new end h fresh is = absurd (true≢false ((fresh refl).1))
settles_both true None None new end h fresh is = is
settles_both false None e new end h fresh is = tt

fits_decided : (p : Option Prepared) (c : Option Committed) (o : Option ℕ) (x : Committed) → outcome_fits p c o ≡ true
    → (is_there p && is_there c) ≡ false → c ≡ Some x → o ≡ Some x.at
fits_decided (Some p) (Some c) o x h one is = cc
fits_decided p None o x h one is = cc
fits_decided None (Some c) (Some s) x h one is =
    let same : c ≡ x = cc in
    ap (λ n. Some n) (sym (eqb-true c.at s h) ∙ ap (λ (y : Committed). y.at) same)
fits_decided None (Some c) None x h one is = cc

unended : (log : List Record) (t : Id) → Sound log → made log t ≡ false → is_there (ended_of log t) ≡ false
unended log t s m = by_test (is_there (ended_of log t)) refl
  where
    by_test : (b : Bool) → is_there (ended_of log t) ≡ b → is_there (ended_of log t) ≡ false
    by_test true e = absurd (true≢false (sym (s.closed t e) ∙ m))
    by_test false e = e

settles_by : (shard : ℕ) (log : List Record) (r : Record) → Kept log → follows shard log r ≡ true → (t : Id) →
    Settles (or_else (committed_of log t) (committed_of (r ∷ []) t)) (or_else (ended_of log t) (ended_of (r ∷ []) t))
unfolding made
settles_by shard log (Opened e) k h t = plain _ _ (k.settles t)
settles_by shard log (Ceiling at) k h t = plain _ _ (k.settles t)
settles_by shard log (Retired least) k h t = plain _ _ (k.settles t)
settles_by shard log (Horizon at) k h t = plain _ _ (k.settles t)
settles_by shard log (Prepare p) k h t = plain _ _ (k.settles t)
settles_by shard log (Commit c) k h t = decided (same_id c.txn t) (committed_of log t) (ended_of log t) c (k.settles t)
    (λ same. let m : made log t ≡ false = subst (λ v. made log v ≡ false) (same_id-is c.txn t same) ((new_facts log c.txn (commit_new shard log c h)).1) in
    ((or_parts _ _ m).1, unended log t k.sound m))
settles_by shard log (Abort u) k h t = plain _ _ (k.settles t)
settles_by shard log (Outcome u o) k h t = ends (same_id u t) (committed_of log t) (ended_of log t) (record { txn = u; outcome = o }) (k.settles t)
    (λ same x is. fits_decided (prepared_of log t) (committed_of log t) o x
    (subst (λ v. outcome_fits (prepared_of log v) (committed_of log v) o ≡ true) (same_id-is u t same) ((outcome_follows shard log u o h).1))
    (k.one t) is)
settles_by shard log (Base e f n) k h t = plain _ _ (k.settles t)
settles_by shard log (Version v) k h t = plain _ _ (k.settles t)
settles_by shard log (Settled u at parts) k h t =
    settles_both (same_id u t) (committed_of log t) (ended_of log t) (settled_decision u at parts) (record { txn = u; outcome = Some at }) (k.settles t)
    (λ same. let m : made log t ≡ false = subst (λ v. made log v ≡ false) (same_id-is u t same) ((new_facts log u (settled_new shard log u at parts h)).1) in
    ((or_parts _ _ m).1, unended log t k.sound m)) refl
settles_by shard log (Closed u coordinator outcome) k h t =
    ends (same_id u t) (committed_of log t) (ended_of log t) (record { txn = u; outcome = outcome }) (k.settles t)
    (λ same x is.
    let m : made log t ≡ false = subst (λ v. made log v ≡ false) (same_id-is u t same)
    ((new_facts log u (closed_new shard log u coordinator outcome h)).1) in
    absurd (true≢false (sym (ap (λ c. is_there c) is) ∙ (or_parts _ _ m).1)))

settles_more : (shard : ℕ) (log : List Record) (r : Record) → Kept log → follows shard log r ≡ true → (t : Id) →
    Settles (committed_of (log ++ r ∷ []) t) (ended_of (log ++ r ∷ []) t)
settles_more shard log r k h t =
    subst (λ c. Settles c (ended_of (log ++ r ∷ []) t)) (sym (committed_more log r t))
    (subst (λ e. Settles (or_else (committed_of log t) (committed_of (r ∷ []) t)) e) (sym (ended_more log r t)) (settles_by shard log r k h t))

-- ---- the first opening

is_begun_more : (log : List Record) (r : Record) → is_begun (log ++ r ∷ []) ≡ true
is_begun_more [] r = refl
is_begun_more (q ∷ qs) r = refl

begun_other : (log : List Record) (r : Record) → begins log r ≡ is_begun log → begins log r ≡ true → is_begun log ≡ nat_lt 0 (epoch_of log) →
    true ≡ nat_lt 0 (epoch_of log)
begun_other log r e h b = sym h ∙ e ∙ b

-- a record that brings no epoch is not first
pub begins_none : (log : List Record) (r : Record) → as_opened r ≡ None → begins log r ≡ is_begun log
begins_none [] r none = ap (λ o. when (λ epoch. true) o) none
begins_none (q ∷ qs) r none = refl

base_above : (shard : ℕ) (log : List Record) (e f n : ℕ) → follows shard log (Base e f n) ≡ true → nat_lt 0 e ≡ true
unfolding follows
base_above shard log e f n h = (and_parts _ _ ((and_parts _ _ h).0)).1

pub begins_ceiling : (log : List Record) (at : ℕ) → begins log (Ceiling at) ≡ is_begun log
begins_ceiling [] at = refl
begins_ceiling (q ∷ qs) at = refl

pub begins_horizon : (log : List Record) (at : ℕ) → begins log (Horizon at) ≡ is_begun log
begins_horizon [] at = refl
begins_horizon (q ∷ qs) at = refl

pub begins_prepare : (log : List Record) (p : Prepared) → begins log (Prepare p) ≡ is_begun log
begins_prepare [] p = refl
begins_prepare (q ∷ qs) p = refl

pub begins_commit : (log : List Record) (c : Committed) → begins log (Commit c) ≡ is_begun log
begins_commit [] c = refl
begins_commit (q ∷ qs) c = refl

pub begins_abort : (log : List Record) (t : Id) → begins log (Abort t) ≡ is_begun log
begins_abort [] t = refl
begins_abort (q ∷ qs) t = refl

pub begins_outcome : (log : List Record) (t : Id) (o : Option ℕ) → begins log (Outcome t o) ≡ is_begun log
begins_outcome [] t o = refl
begins_outcome (q ∷ qs) t o = refl

epoch_learnt : (shard : ℕ) (log : List Record) (r : Record) → Sound log → follows shard log r ≡ true → epoch_of (log ++ r ∷ []) ≡ (learn (facts_of log) r).epoch
unfolding facts_of
epoch_learnt shard log r s h = ap (λ (f : Facts). f.epoch) (learns shard log r s h)

above_none : (n : ℕ) → true ≡ nat_lt 0 (n + 1)
above_none n = grind (arith, nat_tests)

begun_more : (shard : ℕ) (log : List Record) (r : Record) → Kept log → begins log r ≡ true → follows shard log r ≡ true →
    is_begun (log ++ r ∷ []) ≡ nat_lt 0 (epoch_of (log ++ r ∷ []))
unfolding facts_of learn
begun_more shard log r k b h = is_begun_more log r ∙ by_kind r b h ∙ ap (λ n. nat_lt 0 n) (sym (epoch_learnt shard log r k.sound h))
  where
    by_kind : (q : Record) → begins log q ≡ true → follows shard log q ≡ true → true ≡ nat_lt 0 (learn (facts_of log) q).epoch
    by_kind (Opened e) b h = above_none (epoch_of log) ∙ ap (λ n. nat_lt 0 n) (sym (eqb-true _ _ (opened_follows shard log e h)))
    by_kind (Ceiling at) b h = begun_other log (Ceiling at) (begins_ceiling log at) b k.begun
    by_kind (Retired least) b h = begun_other log (Retired least) (begins_none log (Retired least) refl) b k.begun
    by_kind (Horizon at) b h = begun_other log (Horizon at) (begins_horizon log at) b k.begun
    by_kind (Prepare p) b h = begun_other log (Prepare p) (begins_prepare log p) b k.begun
    by_kind (Commit c) b h = begun_other log (Commit c) (begins_commit log c) b k.begun
    by_kind (Abort t) b h = begun_other log (Abort t) (begins_abort log t) b k.begun
    by_kind (Outcome t o) b h = begun_other log (Outcome t o) (begins_outcome log t o) b k.begun
    by_kind (Base e f n) b h = sym (base_above shard log e f n h)
    by_kind (Version v) b h = begun_other log (Version v) (begins_none log (Version v) refl) b k.begun
    by_kind (Settled t at parts) b h = begun_other log (Settled t at parts) (begins_none log (Settled t at parts) refl) b k.begun
    by_kind (Closed t coordinator o) b h = begun_other log (Closed t coordinator o) (begins_none log (Closed t coordinator o) refl) b k.begun

-- ---- where one is

stage_last : (s : Stage) (log : List Record) (r : Record) → stage_from s (log ++ r ∷ []) ≡ stage_after (stage_from s log) r
stage_last s [] r = refl
stage_last s (q ∷ qs) r = stage_last (stage_after s q) qs r

pub stage_more : (log : List Record) (r : Record) → stage_of (log ++ r ∷ []) ≡ stage_after (stage_of log) r
unfolding stage_of
stage_more log r = stage_last Head log r

any_last : (f : Record → Bool) (log : List Record) (r : Record) → f r ≡ false → list_any f (log ++ r ∷ []) ≡ list_any f log
any_last f log r none = any_append f log (r ∷ []) ∙ ap (λ b. list_any f log || (b || false)) none ∙ or-false (list_any f log)

any_there : (f : Record → Bool) (log : List Record) (r : Record) → f r ≡ true → list_any f (log ++ r ∷ []) ≡ true
any_there f log r is = any_append f log (r ∷ []) ∙ ap (λ b. list_any f log || (b || false)) is ∙ or-true (list_any f log)

still_open : (s : Stage) → is_open s ≡ is_open (past_head s)
still_open Head = refl
still_open Early = refl
still_open Open = refl

past_is_none : (s : Stage) → is_head (past_head s) ≡ false
past_is_none Head = refl
past_is_none Early = refl
past_is_none Open = refl

-- the last of some versions is the one behind them
behind_last : (installs : List Install) (w v : Install) → comes_behind (installs ++ w ∷ []) v ≡ version_before w v
behind_last [] w v = refl
behind_last (x ∷ []) w v = refl
behind_last (x ∷ y ∷ rest) w v = behind_last (y ∷ rest) w v

module _ (shard : ℕ) (log : List Record) (r : Record) (k : Kept log) (b : begins log r ≡ true) (h : follows shard log r ≡ true) where
  begun_after : nat_lt 0 (epoch_of (log ++ r ∷ [])) ≡ true
  begun_after = sym (begun_more shard log r k b h) ∙ is_begun_more log r

  -- behind one that is neither an opening nor a base, of some stage
  early_other : as_opened r ≡ None → is_base r ≡ false → opens r ≡ false → is_open (stage_of log) ≡ is_open (stage_after (stage_of log) r) →
      may_end (log ++ r ∷ []) ≡ (nat_lt 0 (epoch_of (log ++ r ∷ [])) && not (is_open (stage_of (log ++ r ∷ []))))
  early_other none base opening same =
      let begun : nat_lt 0 (epoch_of log) ≡ true = sym k.begun ∙ sym (begins_none log r none) ∙ b in
      (λ i. any_last is_base log r base i && not (any_last opens log r opening i))
      ∙ k.at.early
      ∙ (λ i. begun i && not (same i))
      ∙ (λ i. sym begun_after i && not (is_open (sym (stage_more log r) i)))

  next_other : ((v : Install) → goes_on r v ≡ false) → is_head (stage_after (stage_of log) r) ≡ false → (v : Install) →
      is_next (log ++ r ∷ []) v ≡ ((nat_lt 0 (epoch_of (log ++ r ∷ [])) && is_head (stage_of (log ++ r ∷ []))) && comes_behind (installs_of (log ++ r ∷ [])) v)
  next_other none past v =
      next_last log r v ∙ none v
      ∙ (λ i. (sym begun_after i && sym (ap is_head (stage_more log r) ∙ past) i) && comes_behind (installs_of (log ++ r ∷ [])) v)

at_other : (shard : ℕ) (log : List Record) (r : Record) → Kept log → begins log r ≡ true → follows shard log r ≡ true → as_opened r ≡ None →
    is_base r ≡ false → opens r ≡ false → ((v : Install) → goes_on r v ≡ false) → stage_after (stage_of log) r ≡ past_head (stage_of log) → IsAt (log ++ r ∷ [])
at_other shard log r k b h none base opening goes past = record {
  early = early_other shard log r k b h none base opening (still_open (stage_of log) ∙ ap is_open (sym past));
  next = next_other shard log r k b h goes (ap is_head past ∙ past_is_none (stage_of log));
  rising = λ heads. absurd (true≢false (sym heads ∙ ap is_head (stage_more log r ∙ past) ∙ past_is_none (stage_of log)));
}

only_above : (e : ℕ) → nat_lt 0 (max e 0) ≡ nat_lt 0 e
only_above e = grind (arith, nat_tests)

based : (e f n : ℕ) → nat_lt 0 e ≡ true → IsAt (Base e f n ∷ [])
unfolding stage_of installs_of
based e f n above = record {
  early = λ i. sym (only_above e ∙ above) i && true;
  next = λ v i. (sym (only_above e ∙ above) i && true) && true;
  rising = λ heads. refl;
}

at_more : (shard : ℕ) (log : List Record) (r : Record) → Kept log → begins log r ≡ true → follows shard log r ≡ true → IsAt (log ++ r ∷ [])
at_more shard log (Opened e) k b h = record {
  early =
      ap (λ x. list_any is_base (log ++ Opened e ∷ []) && not x) (any_there opens log (Opened e) refl) ∙ and-false _
      ∙ (λ i. sym (begun_after shard log (Opened e) k b h) i && not (is_open (sym (stage_more log (Opened e)) i)));
  next = next_other shard log (Opened e) k b h (λ v. refl) refl;
  rising = λ heads. absurd (true≢false (sym heads ∙ ap is_head (stage_more log (Opened e))));
}
at_more shard log (Ceiling at) k b h = at_other shard log (Ceiling at) k b h refl refl refl (λ v. refl) refl
at_more shard log (Retired least) k b h = at_other shard log (Retired least) k b h refl refl refl (λ v. refl) refl
at_more shard log (Horizon at) k b h = at_other shard log (Horizon at) k b h refl refl refl (λ v. refl) refl
at_more shard log (Prepare p) k b h = at_other shard log (Prepare p) k b h refl refl refl (λ v. refl) refl
at_more shard log (Commit c) k b h = at_other shard log (Commit c) k b h refl refl refl (λ v. refl) refl
at_more shard log (Abort t) k b h = at_other shard log (Abort t) k b h refl refl refl (λ v. refl) refl
at_more shard log (Outcome t o) k b h = at_other shard log (Outcome t o) k b h refl refl refl (λ v. refl) refl
at_more shard log (Base e f n) k b h =
    subst (λ l. IsAt (l ++ Base e f n ∷ [])) (sym (base_first shard log e f n h)) (based e f n (base_above shard log e f n h))
at_more shard log (Version w) k b h =
    let came : ((nat_lt 0 (epoch_of log) && is_head (stage_of log)) && comes_behind (installs_of log) w) ≡ true =
    sym (k.at.next w) ∙ version_next shard log w h in
    let heads : is_head (stage_of log) ≡ true = (and_parts _ _ ((and_parts _ _ came).0)).1 in
    record {
      early = early_other shard log (Version w) k b h refl refl refl refl;
      next = λ v.
          next_last log (Version w) v
          ∙ sym (behind_last (installs_of log) w v)
          ∙ (λ i. (sym (begun_after shard log (Version w) k b h) i && sym (ap is_head (stage_more log (Version w)) ∙ heads) i)
          && comes_behind (sym (version_installs shard log w k.sound h) i) v);
      rising = λ still.
          ap (ascends version_before) (version_installs shard log w k.sound h)
          ∙ ascends_more (installs_of log) w (k.at.rising heads) ((and_parts _ _ came).1);
    }
at_more shard log (Settled t at parts) k b h = at_other shard log (Settled t at parts) k b h refl refl refl (λ v. refl) refl
at_more shard log (Closed t c o) k b h = at_other shard log (Closed t c o) k b h refl refl refl (λ v. refl) refl

-- ---- whole lists

pub kept_more : (shard : ℕ) (log : List Record) (r : Record) → Kept log → begins log r ≡ true → follows shard log r ≡ true → Kept (log ++ r ∷ [])
kept_more shard log r k b h = record {
  sound = sound_more shard log r k.sound h;
  one = one_more shard log r k h;
  settles = settles_more shard log r k h;
  begun = begun_more shard log r k b h;
  at = at_more shard log r k b h;
}

pub kept_empty : Kept []
unfolding installs_of
kept_empty = record {
  sound = sound_empty;
  one = λ t. refl;
  settles = λ t. tt;
  begun = refl;
  at = record
      { early = refl; next = λ v. refl; rising = λ h. refl };
}

pub append_one : {A : Type 0} (xs : List A) (x : A) (ys : List A) → (xs ++ x ∷ []) ++ ys ≡ xs ++ x ∷ ys
append_one [] x ys = refl
append_one (w ∷ ws) x ys = ap (λ l. w ∷ l) (append_one ws x ys)

kept_from : (shard : ℕ) (before log : List Record) → Kept before → followed_from shard before log ≡ true → Kept (before ++ log)
kept_from shard before [] k h = subst Kept (sym (append-nil before)) k
kept_from shard before (r ∷ rs) k h =
    let p : (begins before r ≡ true) × (follows shard before r ≡ true) = and_parts _ _ ((and_parts _ _ h).0) in
    subst Kept (append_one before r rs) (kept_from shard (before ++ r ∷ []) rs (kept_more shard before r k p.0 p.1) ((and_parts _ _ h).1))

pub kept_followed : (shard : ℕ) (log : List Record) → followed shard log ≡ true → Kept log
unfolding followed
kept_followed shard log h = kept_from shard [] log kept_empty h
