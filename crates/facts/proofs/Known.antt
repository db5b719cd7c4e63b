-- What the facts alone tell of a log.
use Rattle.std.proofs.Common.{refl, sym, ◌∙◌, ap, arith}
use Rattle.std.proofs.lemmas.Bool.Decides.{nat_tests}
use Rattle.std.specs.Prelude.{ℕ, ◌+◌, ◌≡◌, Bool, true, false, not, cond, ◌&&◌, ◌||◌, nat_eq, nat_le, nat_lt, List, [], ◌∷◌, ◌++◌, Option, Some, None}
use Rattle.std.specs.Prelude.{option_map}
use Rattle.std.proofs.lemmas.Bool.{and_parts, true≢false}
use Rattle.std.specs.List.{list_all}
use Rattle.std.proofs.lemmas.List.{append-nil}
use Rattle.std.proofs.Math.Bool.{or-false, and-false, and-true}
use Rattle.units.specs.Lists.{head, when}
use Rattle.units.specs.Ids.{Id}
use Rattle.units.specs.Versions.{of_key}
use Rattle.units.specs.declared.writes.Install.{Install}
use Rattle.units.proofs.Folds.{is_there}
use Rattle.record.specs.Accepted.{begins, is_new, is_kept, is_unrecorded, outcome_fits, follows, followed, followed_from, is_start, is_timed}
use Rattle.record.specs.Installs.{installs_of}
use Rattle.record.specs.Facts.{facts_of, learn, recorded}
use Rattle.record.specs.Records.{Ended, Status, Unrecorded, StandsPrepared, StandsDecided, HasAborted, HasSettled, HasClosed, prepared_of}
use Rattle.record.specs.Records.{committed_of, is_aborted, ended_of, epoch_of, retired_of, is_below, status_by, status_of, status_written}
use Rattle.record.specs.declared.record.Committed.{Committed}
use Rattle.record.specs.declared.record.Prepared.{Prepared}
use Rattle.record.specs.declared.record.Record.{Record}
use Rattle.record.specs.declared.record.Record.TheVariants.{Opened, Ceiling, Prepare, Commit, Abort, Outcome, Horizon, Base, Version, Settled, Closed, Retired}
use Rattle.record.proofs.Sound.{made, not_below}
use Rattle.record.proofs.LearnAgrees.{learns, followed_more}
use Rattle.record.proofs.Statuses.{recorded_is}
use Rattle.facts.specs.Laws.{FollowsAsKnown, LearntAsFollowed, SaysOfRecords, SaysOf, StageAgrees, learnt_from}
use Rattle.facts.specs.Stages.{stage_of, stage_after, follows_head, follows_next, is_head, is_open, comes_behind}
use Rattle.facts.specs.Readers.{standing_promise, standing_decision, has_abort, outcome_in}
use Rattle.facts.specs.Rules.{is_free, allows, follows_facts}
use Rattle.facts.proofs.Heads.{behind_above}
use Rattle.facts.proofs.Kept.{Kept, is_begun, stage_more, begins_none, Settles, kept_empty, kept_more, kept_followed, append_one, begins_ceiling}
use Rattle.facts.proofs.Kept.{begins_horizon, begins_prepare, begins_commit}
use Rattle.facts.proofs.Kept.{begins_abort, begins_outcome}

-- ---- the rules of one id

-- the status that the facts give of an id that is not retired is that which was written
module _ (log : List Record) (t : Id) where
  written : is_below (retired_of log) t ≡ false → recorded (facts_of log) t ≡ status_written log t
  unfolding status_of
  written kept = recorded_is log t ∙ ap (λ b. cond b Unrecorded (status_written log t)) kept

  new_known : is_new log t ≡ is_free (facts_of log) t
  unfolding facts_of
  new_known = by_test (is_below (retired_of log) t) refl
    where
      by_test : (b : Bool) → is_below (retired_of log) t ≡ b
          → (is_unrecorded (status_written log t) && not b) ≡ (is_unrecorded (recorded (facts_of log) t) && not b)
      by_test true e = and-false _ ∙ sym (and-false _)
      by_test false e = ap (λ s. is_unrecorded s && true) (sym (written e))

no_fit : (o : Option ℕ) → outcome_fits None None o ≡ false
no_fit None = refl
no_fit (Some s) = refl

none_allowed : (a : Bool) (o : Option ℕ) → a ≡ true → allows HasAborted o ≡ false
none_allowed a None e = refl
none_allowed a (Some s) e = refl

-- an outcome, by the parts of the status
allowed_by : (a : Bool) (c : Option Committed) (p : Option Prepared) (e : Option Ended) (o : Option ℕ)
    → (a ≡ true → (is_there p || is_there c) ≡ false) → (is_there p && is_there c) ≡ false
    → (not (is_there e) && outcome_fits p c o) ≡ allows (status_by a c p e) o
allowed_by true (Some c) None e o apart one = absurd (true≢false (apart refl))
allowed_by true c (Some p) e o apart one = absurd (true≢false (apart refl))
allowed_by true None None e None apart one = and-false (not (is_there e))
allowed_by true None None e (Some s) apart one = and-false (not (is_there e))
allowed_by false (Some c) (Some p) e o apart one = cc
allowed_by false (Some c) None (Some e) None apart one = refl
allowed_by false (Some c) None (Some e) (Some s) apart one = refl
allowed_by false (Some c) None None None apart one = refl
allowed_by false (Some c) None None (Some s) apart one = refl
allowed_by false None (Some p) (Some e) None apart one = refl
allowed_by false None (Some p) (Some e) (Some s) apart one = refl
allowed_by false None (Some p) None None apart one = refl
allowed_by false None (Some p) None (Some s) apart one = or-false _
allowed_by false None None e None apart one = and-false (not (is_there e))
allowed_by false None None e (Some s) apart one = and-false (not (is_there e))

allowed_known : (log : List Record) (t : Id) (o : Option ℕ) → Kept log →
    ((not (is_there (ended_of log t)) && outcome_fits (prepared_of log t) (committed_of log t) o) && is_kept (retired_of log) t)
    ≡ allows (recorded (facts_of log) t) o
unfolding status_of status_written made
allowed_known log t o k = by_test (is_below (retired_of log) t) refl
  where
    none_allowed_of : (o : Option ℕ) → false ≡ allows Unrecorded o
    none_allowed_of None = refl
    none_allowed_of (Some s) = refl

    fits : Bool
    fits = not (is_there (ended_of log t)) && outcome_fits (prepared_of log t) (committed_of log t) o

    by_test : (b : Bool) → is_below (retired_of log) t ≡ b → (fits && not b) ≡ allows (recorded (facts_of log) t) o
    by_test true e =
        and-false fits ∙ none_allowed_of o
        ∙ sym (ap (λ s. allows s o) (recorded_is log t ∙ ap (λ b. cond b Unrecorded (status_written log t)) e))
    by_test false e =
        and-true fits
        ∙ allowed_by (is_aborted log t) (committed_of log t) (prepared_of log t) (ended_of log t) o (k.sound.apart t) (k.one t)
        ∙ ap (λ s. allows s o) (sym (written log t e))

two : (a b c d : Bool) → a ≡ c → b ≡ d → (a && b) ≡ (c && d)
two a b c d e f = λ i. e i && f i

begins_opened : (log : List Record) (epoch : ℕ) → begins log (Opened epoch) ≡ true
begins_opened [] epoch = refl
begins_opened (q ∷ qs) epoch = refl

start_known : (log : List Record) → Kept log → is_start log ≡ nat_eq (epoch_of log) 0
start_known log k = not_begun log ∙ ap (λ b. not b) k.begun ∙ none_above (epoch_of log)
  where
    not_begun : (log : List Record) → is_start log ≡ not (is_begun log)
    not_begun [] = refl
    not_begun (q ∷ qs) = refl

    none_above : (n : ℕ) → not (nat_lt 0 n) ≡ nat_eq n 0
    none_above n = grind (arith, nat_tests)

begins_base : (log : List Record) (e f n : ℕ) → begins log (Base e f n) ≡ true
begins_base [] e f n = refl
begins_base (q ∷ qs) e f n = refl

-- what asks for a record before it needs no more than its own rule
asks : (a b c : Bool) → (a && ((a && b) && c)) ≡ ((a && b) && c)
asks true b c = refl
asks false b c = refl

asks_more : (a b c d e : Bool) → (a && ((((a && b) && c) && d) && e)) ≡ ((((a && b) && c) && d) && e)
asks_more true b c d e = refl
asks_more false b c d e = refl

known_next : (shard : ℕ) (log : List Record) (r : Record) → Kept log →
    (begins log r && follows shard log r) ≡ follows_next shard (stage_of log) (facts_of log) r
unfolding follows follows_next follows_facts follows_head facts_of
known_next shard log (Opened epoch) k = ap (λ b. b && nat_eq epoch (epoch_of log + 1)) (begins_opened log epoch) ∙ sym (or-false _)
known_next shard log (Ceiling at) k = two _ _ _ _ (begins_ceiling log at ∙ k.begun) refl ∙ sym (or-false _)
known_next shard log (Retired least) k = two _ _ _ _ (begins_none log (Retired least) refl ∙ k.begun) refl ∙ sym (or-false _)
known_next shard log (Horizon at) k = two _ _ _ _ (begins_horizon log at ∙ k.begun) refl ∙ sym (or-false _)
known_next shard log (Prepare p) k = two _ _ _ _ (begins_prepare log p ∙ k.begun)
    (ap (λ b. nat_lt 0 p.at && b && nat_lt p.coordinator shard) (new_known log p.txn)) ∙ sym (or-false _)
known_next shard log (Commit c) k = two _ _ _ _ (begins_commit log c ∙ k.begun)
    (ap (λ b. nat_lt 0 c.at && b && when (nat_eq shard) (head c.parts)) (new_known log c.txn)) ∙ sym (or-false _)
known_next shard log (Abort t) k = two _ _ _ _ (begins_abort log t ∙ k.begun) (new_known log t) ∙ sym (or-false _)
known_next shard log (Outcome t o) k = two _ _ _ _ (begins_outcome log t o ∙ k.begun) (allowed_known log t o k) ∙ sym (or-false _)
known_next shard log (Base e f n) k =
    λ i. begins_base log e f n i && ((start_known log k i && nat_lt 0 e) && nat_le n f)
known_next shard log (Version v) k =
    two _ _ _ _ (begins_none log (Version v) refl ∙ k.begun) (k.at.next v)
    ∙ asks (nat_lt 0 (epoch_of log)) (is_head (stage_of log)) (comes_behind (installs_of log) v)
known_next shard log (Settled t at parts) k =
    two _ _ _ _ (begins_none log (Settled t at parts) refl ∙ k.begun)
    (λ i. ((k.at.early i && nat_lt 0 at) && new_known log t i) && when (nat_eq shard) (head parts))
    ∙ asks_more (nat_lt 0 (epoch_of log)) (not (is_open (stage_of log))) (nat_lt 0 at) (is_free (facts_of log) t)
    (when (nat_eq shard) (head parts))
known_next shard log (Closed t coordinator o) k =
    two _ _ _ _ (begins_none log (Closed t coordinator o) refl ∙ k.begun)
    (λ i. ((k.at.early i && is_timed o) && new_known log t i) && nat_lt coordinator shard)
    ∙ asks_more (nat_lt 0 (epoch_of log)) (not (is_open (stage_of log))) (is_timed o) (is_free (facts_of log) t)
    (nat_lt coordinator shard)

pub follows_as_known : FollowsAsKnown
follows_as_known shard log r h =
    followed_more shard log r ∙ ap (λ b. b && (begins log r && follows shard log r)) h ∙ known_next shard log r (kept_followed shard log h)

-- a version that may come is above those of its key
pub version_above : (shard : ℕ) (log : List Record) (i : Install) → followed shard log ≡ true →
    follows_next shard (stage_of log) (facts_of log) (Version i) ≡ true → list_all (λ j. nat_lt j.at i.at) (of_key (facts_of log).installs i.key) ≡ true
unfolding follows_next follows_facts follows_head facts_of
version_above shard log i h may =
    let p = and_parts _ _ may in
    behind_above (installs_of log) i ((kept_followed shard log h).at.rising ((and_parts _ _ p.0).1)) p.1

-- ---- whole lists

learnt_by : (shard : ℕ) (before log : List Record) → Kept before →
    learnt_from shard (stage_of before) (facts_of before) log ≡ cond (followed_from shard before log) (Some (facts_of (before ++ log))) None
learnt_by shard before [] k = ap (λ l. Some (facts_of l)) (sym (append-nil before))
learnt_by shard before (r ∷ rs) k = by_test (begins before r && follows shard before r) refl (learnt_by shard (before ++ r ∷ []) rs)
  where
    by_test : (b : Bool) → (begins before r && follows shard before r) ≡ b →
        (Kept (before ++ r ∷ []) → learnt_from shard (stage_of (before ++ r ∷ [])) (facts_of (before ++ r ∷ [])) rs
        ≡ cond (followed_from shard (before ++ r ∷ []) rs) (Some (facts_of ((before ++ r ∷ []) ++ rs))) None) →
        learnt_from shard (stage_of before) (facts_of before) (r ∷ rs) ≡ cond (followed_from shard before (r ∷ rs)) (Some (facts_of (before ++ r ∷ rs))) None
    by_test true e rest =
        let p : (begins before r ≡ true) × (follows shard before r ≡ true) = and_parts _ _ e in
        ap (λ b. cond b (learnt_from shard (stage_after (stage_of before) r) (learn (facts_of before) r) rs) None) (sym (known_next shard before r k) ∙ e)
        ∙ (λ i. learnt_from shard (sym (stage_more before r) i) (sym (learns shard before r k.sound p.1) i) rs)
        ∙ rest (kept_more shard before r k p.0 p.1)
        ∙ ap (λ l. cond (followed_from shard (before ++ r ∷ []) rs) (Some (facts_of l)) None) (append_one before r rs)
        ∙ ap (λ b. cond (b && followed_from shard (before ++ r ∷ []) rs) (Some (facts_of (before ++ r ∷ rs))) None) (sym e)
    by_test false e rest =
        ap (λ b. cond b (learnt_from shard (stage_after (stage_of before) r) (learn (facts_of before) r) rs) None) (sym (known_next shard before r k) ∙ e)
        ∙ ap (λ b. cond (b && followed_from shard (before ++ r ∷ []) rs) (Some (facts_of (before ++ r ∷ rs))) None) (sym e)

pub learnt_as_followed : LearntAsFollowed
unfolding followed
learnt_as_followed shard log = learnt_by shard [] log kept_empty

-- ---- what the facts still say

promise_by : (a : Bool) (c : Option Committed) (p : Option Prepared) (e : Option Ended) → (a ≡ true → (is_there p || is_there c) ≡ false)
    → (is_there p && is_there c) ≡ false → e ≡ None → standing_promise (status_by a c p e) ≡ p
promise_by true c (Some p) e apart one none = absurd (true≢false (apart refl))
promise_by true c None e apart one none = refl
promise_by false (Some c) (Some p) e apart one none = cc
promise_by false (Some c) None (Some e) apart one none = refl
promise_by false (Some c) None None apart one none = refl
promise_by false None (Some p) (Some e) apart one none = cc
promise_by false None (Some p) None apart one none = refl
promise_by false None None e apart one none = refl

decision_by : (a : Bool) (c : Option Committed) (p : Option Prepared) (e : Option Ended) → (a ≡ true → (is_there p || is_there c) ≡ false)
    → e ≡ None → standing_decision (status_by a c p e) ≡ c
decision_by true None p e apart none = refl
decision_by true (Some c) None e apart none = absurd (true≢false (apart refl))
decision_by true (Some c) (Some p) e apart none = absurd (true≢false (apart refl))
decision_by false (Some c) p (Some e) apart none = cc
decision_by false (Some c) p None apart none = refl
decision_by false None (Some p) (Some e) apart none = refl
decision_by false None (Some p) None apart none = refl
decision_by false None None e apart none = refl

abort_by : (a : Bool) (c : Option Committed) (p : Option Prepared) (e : Option Ended) → has_abort (status_by a c p e) ≡ a
abort_by true c p e = refl
abort_by false (Some c) p (Some e) = refl
abort_by false (Some c) p None = refl
abort_by false None (Some p) (Some e) = refl
abort_by false None (Some p) None = refl
abort_by false None None e = refl

outcome_by : (a : Bool) (c : Option Committed) (p : Option Prepared) (e : Option Ended) → (a ≡ true → (is_there p || is_there c) ≡ false)
    → (is_there e ≡ true → (is_there p || is_there c) ≡ true) → Settles c e → outcome_in (status_by a c p e) ≡ option_map (λ x. x.outcome) e
outcome_by true c p (Some e) apart closed settles = absurd (true≢false (sym (closed refl) ∙ apart refl))
outcome_by true c p None apart closed settles = refl
outcome_by false (Some c) p (Some e) apart closed settles = ap (λ o. Some o) (sym settles)
outcome_by false (Some c) p None apart closed settles = refl
outcome_by false None (Some p) (Some e) apart closed settles = refl
outcome_by false None (Some p) None apart closed settles = refl
outcome_by false None None (Some e) apart closed settles = absurd (true≢false (sym (closed refl)))
outcome_by false None None None apart closed settles = refl

says : (log : List Record) → Kept log → (t : Id) → is_below (retired_of log) t ≡ false → SaysOf log t
unfolding status_written made
says log k t kept =
    let a = is_aborted log t in
    let c = committed_of log t in
    let p = prepared_of log t in
    let e = ended_of log t in
    record {
      promise = λ none. ap standing_promise (written log t kept) ∙ promise_by a c p e (k.sound.apart t) (k.one t) none;
      decision = λ none. ap standing_decision (written log t kept) ∙ decision_by a c p e (k.sound.apart t) none;
      abort = ap has_abort (written log t kept) ∙ abort_by a c p e;
      outcome = ap outcome_in (written log t kept) ∙ outcome_by a c p e (k.sound.apart t) (k.sound.closed t) (k.settles t);
    }

pub stage_agrees : StageAgrees
stage_agrees log r = stage_more log r

pub says_of_records : SaysOfRecords
says_of_records shard log h t kept = says log (kept_followed shard log h) t (not_below log t kept)
