-- Logs that say the same status of an id say the same of it to the inspector: it is whole over both or over neither, and stands in both
-- histories at the same timestamps.
use Rattle.std.specs.List.{AllByRecursion, list_any, list_all}
use Rattle.std.proofs.Common.{◌≡◌, ℕ, suc, Bool, true, false, not, cond, ◌&&◌, ◌||◌, nat_eq, nat_lt, nat_le, IsTrue, List, [], ◌∷◌, ◌++◌, length, map, filter}
use Rattle.std.proofs.Common.{flat_map, Option, Some, None, refl, sym, ap, ◌∙◌, subst, arith}
use Rattle.std.proofs.lemmas.Bool.Decides.{nat_tests}
use Rattle.std.proofs.lemmas.List.{length-map, map-append}
use Rattle.std.proofs.lemmas.List.Elements.{filter-append}
use Rattle.units.specs.Ids.{Id, same_id}
use Rattle.units.specs.Lists.{first, gather, has, head, numbered, when}
use Rattle.units.proofs.IdLaws.{same_id_comm}
use Rattle.record.specs.Accepted.{followed}
use Rattle.record.specs.Facts.{facts_of, or_unrecorded}
use Rattle.record.specs.History.{Txn, by_shard, find_txn, history, whole_txn}
use Rattle.record.specs.Lines.{is_in_at}
use Rattle.record.specs.Records.{Ended, Status, HasSettled, HasClosed, as_committed, as_ended}
use Rattle.record.specs.Records.{is_aborted, is_below, retired_of, settled_decision, status_written}
use Rattle.record.specs.Whole.{Decision, decisions, fits_decision, is_promise_for, is_whole, is_whole_by, outcomes_fit, promises_of}
use Rattle.record.specs.declared.record.Committed.{Committed}
use Rattle.record.specs.declared.record.Prepared.{Prepared}
use Rattle.record.specs.declared.record.Record.{Record}
use Rattle.record.proofs.Statuses.{recorded_is}
use Rattle.law.proofs.Retired.{written_is}
use Rattle.playing.proofs.Seen.{Seen, IsNotBelow, IsToldBy, end_of, seen, seen_by, told, with_seen}

-- ---- what is asked of a log

any_kept : {A : Type 0} (test passes : A → Bool) (xs : List A) → list_any (λ x. test x && passes x) xs ≡ list_any passes (filter test xs)
any_kept test passes [] = refl
any_kept test passes (x ∷ xs) = by_test (test x) (any_kept test passes xs)
  where
    by_test : (b : Bool) → list_any (λ y. test y && passes y) xs ≡ list_any passes (filter test xs) →
        ((b && passes x) || list_any (λ y. test y && passes y) xs) ≡ list_any passes (cond b (x ∷ filter test xs) (filter test xs))
    by_test true e = ap (λ c. passes x || c) e
    by_test false e = e

all_kept : {A : Type 0} (test other passes : A → Bool) → ((x : A) → other x ≡ test x) → (xs : List A) →
    list_all (λ x. not (other x) || passes x) xs ≡ list_all passes (filter test xs)
all_kept test other passes same [] = refl
all_kept test other passes same (x ∷ xs) =
    ap (λ b. (not b || passes x) && list_all (λ y. not (other y) || passes y) xs) (same x) ∙ by_test (test x) (all_kept test other passes same xs)
  where
    by_test : (b : Bool) → list_all (λ y. not (other y) || passes y) xs ≡ list_all passes (filter test xs) →
        ((not b || passes x) && list_all (λ y. not (other y) || passes y) xs) ≡ list_all passes (cond b (x ∷ filter test xs) (filter test xs))
    by_test true e = ap (λ c. passes x && c) e
    by_test false e = e

-- the outcomes, each at a timestamp by a test
abbrev ends_fit : (ℕ → Bool) → List Ended → Bool
ends_fit fits es = list_all (λ e. elim e.outcome [ None ↦ true | Some s ↦ fits s ]) es

-- a log beside a decision
abbrev fits_by : Decision → ℕ → Seen → Bool
fits_by d n x =
    not (x.aborted || list_any (λ e. not (when (λ s. true) e.outcome)) x.ended)
    && ends_fit (nat_eq d.commit.at) x.ended
    && cond (nat_eq n d.shard) true (cond (has d.commit.parts n) (is_promise_for d x.promised) (nat_eq (length x.promised) 0))

ends_are : (log : List Record) (t : Id) (fits : ℕ → Bool) → outcomes_fit log t fits ≡ ends_fit fits (seen log t).ended
ends_are log t fits = all_kept (λ (e : Ended). same_id e.txn t) (λ e. same_id t e.txn) _ (λ e. same_id_comm t e.txn) (gather as_ended log)

fits_are : (log : List Record) (t : Id) (d : Decision) (n : ℕ) → fits_decision t d (n, log) ≡ fits_by d n (seen log t)
fits_are log t d n = λ i.
    not (is_aborted log t || any_kept (λ (e : Ended). same_id e.txn t) (λ e. not (when (λ s. true) e.outcome)) (gather as_ended log) i)
    && ends_are log t (nat_eq d.commit.at) i
    && cond (nat_eq n d.shard) true (cond (has d.commit.parts n) (is_promise_for d (promises_of log t)) (nat_eq (length (promises_of log t)) 0))

-- a closed promise is read at its outcome's timestamp, which is the decision's where the log fits
closed_fits : (t : Id) (d : Decision) (n : ℕ) (p : Prepared) (coordinator : ℕ) (outcome : Option ℕ) → p.coordinator ≡ coordinator →
    IsNotBelow p.at outcome → fits_by d n (with_seen false [] (p ∷ []) (end_of t outcome ∷ [])) ≡ fits_by d n (seen_by t (HasClosed coordinator outcome))
closed_fits t d n p coordinator None same below = refl
closed_fits t d n p coordinator (Some s) same below =
    by_stamp p.coordinator p.at coordinator (nat_eq n d.shard) (has d.commit.parts n) d.shard d.commit.at same below
  where
    by_stamp : (k at c : ℕ) (here part : Bool) (shard stamp : ℕ) → k ≡ c → nat_le at s ≡ true →
        ((nat_eq stamp s && true) && cond here true (cond part (nat_eq k shard && nat_le at stamp) false))
        ≡ ((nat_eq stamp s && true) && cond here true (cond part (nat_eq c shard && nat_le s stamp) false))
    by_stamp k at c true part shard stamp e f = refl
    by_stamp k at c false false shard stamp e f = refl
    by_stamp k at c false true shard stamp e f = grind (arith, nat_tests)

-- ---- it is told from the status

fits_told : (t : Id) (d : Decision) (n : ℕ) (s : Status) (x : Seen) → IsToldBy t s x → fits_by d n x ≡ fits_by d n (seen_by t s)
fits_told t d n (HasSettled at parts) x h = ap (fits_by d n) h.3
fits_told t d n (HasClosed k o) x (p, same, below, h) = ap (fits_by d n) h ∙ closed_fits t d n p k o same below
fits_told t d n _ x h = ap (fits_by d n) h

ends_told : (t : Id) (s : Status) (x : Seen) → IsToldBy t s x → x.ended ≡ (seen_by t s).ended
ends_told t (HasSettled at parts) x h = ap (λ y. y.ended) h.3
ends_told t (HasClosed k o) x h = ap (λ y. y.ended) h.3
ends_told t _ x h = ap (λ y. y.ended) h

-- decisions without their reads and writes: what is left of those that are settled
abbrev left_of : Id → List Committed → List Committed
left_of t cs = map (λ c. settled_decision t c.at c.parts) cs

decided_told : (t : Id) (s : Status) (x : Seen) → IsToldBy t s x → left_of t x.decided ≡ left_of t (seen_by t s).decided
decided_told t (HasSettled at parts) x (c, same_at, same_parts, h) =
    ap (λ y. left_of t y.decided) h ∙ (λ i. settled_decision t (same_at i) (same_parts i) ∷ [])
decided_told t (HasClosed k o) x h = ap (λ y. left_of t y.decided) h.3
decided_told t _ x h = ap (λ y. left_of t y.decided) h

-- ---- two logs, and two lists of logs

-- two logs say the same status of an id
abbrev pub SayTheSame : Id → List Record → List Record → Type 0
SayTheSame t log other = (s : Status) × IsToldBy t s (seen log t) × IsToldBy t s (seen other t)

-- so do logs whose facts have the same entries, of an id that neither retired
pub same_entries : (n m : ℕ) (log other : List Record) → IsTrue (followed n log) → IsTrue (followed m other) →
    (facts_of log).entries ≡ (facts_of other).entries → (t : Id) → is_below (retired_of log) t ≡ false → is_below (retired_of other) t ≡ false →
    SayTheSame t log other
same_entries n m log other h k same t kept too =
    (status_written log t, told n log t h, subst (λ s. IsToldBy t s (seen other t)) (sym status) (told m other t k))
  where
    status : status_written log t ≡ status_written other t
    status =
        sym (written_is log t kept) ∙ sym (recorded_is log t) ∙ ap (λ es. or_unrecorded (first (λ e. same_id e.txn t) es)) same
        ∙ recorded_is other t ∙ written_is other t too

-- what is made of a list whose parts are joined
join_then : {A B C : Type 0} (f : List B → List C) (g : A → List B) → f [] ≡ [] → ((xs ys : List B) → f (xs ++ ys) ≡ f xs ++ f ys) →
    (xs : List A) → f (flat_map g xs) ≡ flat_map (λ x. f (g x)) xs
join_then f g none both [] = none
join_then f g none both (x ∷ xs) = both (g x) (flat_map g xs) ∙ ap (λ l. f (g x) ++ l) (join_then f g none both xs)

abbrev decision_at : ℕ → Committed → Decision
decision_at n c = record { shard = n; commit = c }

abbrev settled : Id → Decision → Decision
settled t d = decision_at d.shard (settled_decision t d.commit.at d.commit.parts)

-- the decisions in one log, as two definitions find them
decided_here : (t : Id) (n : ℕ) (cs : List Committed) →
    map (settled t) (map (decision_at n) (filter (λ c. same_id t c.txn) cs)) ≡ map (decision_at n) (left_of t (filter (λ c. same_id c.txn t) cs))
decided_here t n [] = refl
decided_here t n (c ∷ cs) =
    ap (λ b. map (settled t) (map (decision_at n) (cond b (c ∷ filter (λ d. same_id t d.txn) cs) (filter (λ d. same_id t d.txn) cs))))
    (same_id_comm t c.txn)
    ∙ by_test (same_id c.txn t) (filter (λ d. same_id t d.txn) cs) (filter (λ d. same_id d.txn t) cs) (decided_here t n cs)
  where
    by_test : (b : Bool) (ds es : List Committed) → map (settled t) (map (decision_at n) ds) ≡ map (decision_at n) (left_of t es) →
        map (settled t) (map (decision_at n) (cond b (c ∷ ds) ds)) ≡ map (decision_at n) (left_of t (cond b (c ∷ es) es))
    by_test true ds es e = ap (λ l. decision_at n (settled_decision t c.at c.parts) ∷ l) e
    by_test false ds es e = e

-- the timestamps of an id in a history, and those of decisions in the log of their least part
abbrev stamps_of : Id → List Txn → List ℕ
stamps_of t h = map (λ u. u.at) (filter (λ u. same_id u.txn t) h)

abbrev stamps_at : ℕ → List Committed → List ℕ
stamps_at n cs = map (λ c. c.at) (filter (λ c. when (nat_eq n) (head c.parts)) cs)

abbrev txns_at : List (List Record) → ℕ → List Committed → List Txn
txns_at logs n cs = gather (λ c. cond (when (nat_eq n) (head c.parts)) (Some (whole_txn logs n c)) None) cs

put : {A : Type 0} (stamp : A → ℕ) (test : A → Bool) (x : A) (xs : List A) (b : Bool) → test x ≡ b →
    map stamp (filter test (x ∷ xs)) ≡ map stamp (cond b (x ∷ filter test xs) (filter test xs))
put stamp test x xs b e = ap (λ c. map stamp (cond c (x ∷ filter test xs) (filter test xs))) e

stamps_here : (t : Id) (logs : List (List Record)) (n : ℕ) (cs : List Committed) →
    stamps_of t (txns_at logs n cs) ≡ stamps_at n (left_of t (filter (λ c. same_id c.txn t) cs))
stamps_here t logs n [] = refl
stamps_here t logs n (c ∷ cs) =
    by_tests (at_home c) refl (same_id c.txn t) refl (txns_at logs n cs) (filter (λ d. same_id d.txn t) cs) (stamps_here t logs n cs)
  where
    at_home : Committed → Bool
    at_home d = when (nat_eq n) (head d.parts)

    mine_too : Txn → Bool
    mine_too u = same_id u.txn t

    by_tests : (home : Bool) → at_home c ≡ home → (mine : Bool) → same_id c.txn t ≡ mine → (txns : List Txn) (kept : List Committed) →
        stamps_of t txns ≡ stamps_at n (left_of t kept) →
        stamps_of t (elim (cond home (Some (whole_txn logs n c)) None) as (λ o. List Txn) [ None ↦ txns | Some u ↦ u ∷ txns ])
        ≡ stamps_at n (left_of t (cond mine (c ∷ kept) kept))
    by_tests true is true same txns kept rest =
        put (λ u. u.at) mine_too (whole_txn logs n c) txns true same ∙ ap (λ l. c.at ∷ l) rest
        ∙ sym (put (λ d. d.at) at_home (settled_decision t c.at c.parts) (left_of t kept) true is)
    by_tests true is false same txns kept rest = put (λ u. u.at) mine_too (whole_txn logs n c) txns false same ∙ rest
    by_tests false is true same txns kept rest = rest ∙ sym (put (λ d. d.at) at_home (settled_decision t c.at c.parts) (left_of t kept) false is)
    by_tests false is false same txns kept rest = rest

-- each two of two lists, which some other list gives
module _ {S : Type 0} (one other : S → List Record) (t : Id) where
  abbrev AllSay : List S → Type 0
  AllSay ss = AllByRecursion (λ s. SayTheSame t (one s) (other s)) ss

  all_same : (f : ℕ × List Record → Bool) → ((n : ℕ) (l m : List Record) → SayTheSame t l m → f (n, l) ≡ f (n, m)) →
      (n : ℕ) (ss : List S) → AllSay ss → list_all f (numbered n (map one ss)) ≡ list_all f (numbered n (map other ss))
  all_same f same n [] h = refl
  all_same f same n (s ∷ ss) h = λ i. same n (one s) (other s) h.0 i && all_same f same (suc n) ss h.1 i

  join_same : {B : Type 0} (f g : ℕ × List Record → List B) → ((n : ℕ) (l m : List Record) → SayTheSame t l m → f (n, l) ≡ g (n, m)) →
      (n : ℕ) (ss : List S) → AllSay ss → flat_map f (numbered n (map one ss)) ≡ flat_map g (numbered n (map other ss))
  join_same f g same n [] h = refl
  join_same f g same n (s ∷ ss) h = λ i. same n (one s) (other s) h.0 i ++ join_same f g same (suc n) ss h.1 i

  ends_same : (ss : List S) → AllSay ss →
      list_all (λ l. outcomes_fit l t (λ s. false)) (map one ss) ≡ list_all (λ l. outcomes_fit l t (λ s. false)) (map other ss)
  ends_same [] h = refl
  ends_same (s ∷ ss) h = λ i. ends_alike (one s) (other s) h.0 i && ends_same ss h.1 i
    where
      ends_alike : (l m : List Record) → SayTheSame t l m → outcomes_fit l t (λ x. false) ≡ outcomes_fit m t (λ x. false)
      ends_alike l m k =
          ends_are l t (λ x. false) ∙ ap (ends_fit (λ x. false)) (ends_told t k.0 _ k.1 ∙ sym (ends_told t k.0 _ k.2)) ∙ sym (ends_are m t (λ x. false))

  module _ (ss : List S) (say : AllSay ss) where
    abbrev pub logs : List (List Record)
    logs = map one ss

    abbrev pub others : List (List Record)
    others = map other ss

    left_same : (l m : List Record) → SayTheSame t l m → left_of t (seen l t).decided ≡ left_of t (seen m t).decided
    left_same l m k = decided_told t k.0 _ k.1 ∙ sym (decided_told t k.0 _ k.2)

    -- ---- whole

    decisions_same : map (settled t) (decisions logs t) ≡ map (settled t) (decisions others t)
    decisions_same =
        join_then (map (settled t)) here refl (map-append (settled t)) (by_shard logs)
        ∙ join_same (λ l. map (settled t) (here l)) (λ l. map (settled t) (here l))
        (λ n l m k. decided_here t n (gather as_committed l) ∙ ap (map (decision_at n)) (left_same l m k) ∙ sym (decided_here t n (gather as_committed m)))
        0 ss say
        ∙ sym (join_then (map (settled t)) here refl (map-append (settled t)) (by_shard others))
      where
        here : ℕ × List Record → List Decision
        here l = map (decision_at l.0) (filter (λ c. same_id t c.txn) (gather as_committed l.1))

    -- nothing but what is left of a settled decision is asked for
    whole_settled : (ls : List (List Record)) (ds : List Decision) → is_whole_by ls t ds ≡ is_whole_by ls t (map (settled t) ds)
    whole_settled ls [] = refl
    whole_settled ls (d ∷ []) = refl
    whole_settled ls (d ∷ e ∷ rest) = refl

    whole_by_same : (ds : List Decision) → is_whole_by logs t ds ≡ is_whole_by others t ds
    whole_by_same [] = ends_same ss say
    whole_by_same (d ∷ []) = λ i.
        when (nat_eq d.shard) (head d.commit.parts) && list_all (λ m. nat_lt m (as_long i)) d.commit.parts
        && all_same (fits_decision t d) fit 0 ss say i
      where
        as_long : length logs ≡ length others
        as_long = length-map ss one ∙ sym (length-map ss other)

        fit : (n : ℕ) (l m : List Record) → SayTheSame t l m → fits_decision t d (n, l) ≡ fits_decision t d (n, m)
        fit n l m k = fits_are l t d n ∙ fits_told t d n k.0 _ k.1 ∙ sym (fits_told t d n k.0 _ k.2) ∙ sym (fits_are m t d n)
    whole_by_same (d ∷ e ∷ rest) = refl

    pub whole_same : is_whole t logs ≡ is_whole t others
    unfolding is_whole
    whole_same =
        whole_settled logs (decisions logs t) ∙ whole_by_same (map (settled t) (decisions logs t))
        ∙ ap (is_whole_by others t) decisions_same ∙ sym (whole_settled others (decisions others t))

    -- ---- the history

    stamps_same : stamps_of t (history logs) ≡ stamps_of t (history others)
    unfolding history
    stamps_same =
        join_then (stamps_of t) (λ (l : ℕ × List Record). txns_at logs l.0 (gather as_committed l.1)) refl both (by_shard logs)
        ∙ join_same _ _
        (λ n l m k. stamps_here t logs n (gather as_committed l) ∙ ap (stamps_at n) (left_same l m k)
        ∙ sym (stamps_here t others n (gather as_committed m)))
        0 ss say
        ∙ sym (join_then (stamps_of t) (λ (l : ℕ × List Record). txns_at others l.0 (gather as_committed l.1)) refl both (by_shard others))
      where
        both : (xs ys : List Txn) → stamps_of t (xs ++ ys) ≡ stamps_of t xs ++ stamps_of t ys
        both xs ys = ap (map (λ u. u.at)) (filter-append (λ (u : Txn). same_id u.txn t) xs ys) ∙ map-append (λ (u : Txn). u.at) _ _

    pub in_at_same : (at : ℕ) → is_in_at (history logs) t at ≡ is_in_at (history others) t at
    in_at_same at = by_stamps (history logs) ∙ ap (list_any (λ s. nat_eq s at)) stamps_same ∙ sym (by_stamps (history others))
      where
        any_of : (us : List Txn) → list_any (λ u. nat_eq u.at at) us ≡ list_any (λ s. nat_eq s at) (map (λ u. u.at) us)
        any_of [] = refl
        any_of (u ∷ us) = ap (λ b. nat_eq u.at at || b) (any_of us)

        by_stamps : (h : List Txn) → is_in_at h t at ≡ list_any (λ s. nat_eq s at) (stamps_of t h)
        by_stamps h = any_kept (λ (u : Txn). same_id u.txn t) (λ u. nat_eq u.at at) h ∙ any_of (filter (λ u. same_id u.txn t) h)

    pub found_same : when (λ u. true) (find_txn (history logs) t) ≡ when (λ u. true) (find_txn (history others) t)
    found_same = by_stamps (filter _ (history logs)) ∙ ap (λ l. when (λ s. true) (head l)) stamps_same ∙ sym (by_stamps (filter _ (history others)))
      where
        by_stamps : (us : List Txn) → when (λ u. true) (head us) ≡ when (λ s. true) (head (map (λ u. u.at) us))
        by_stamps [] = refl
        by_stamps (u ∷ us) = refl
