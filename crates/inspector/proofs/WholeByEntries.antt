-- Whether a transaction is whole is seen from the records about it alone.
use Rattle.std.specs.List.{list_all, list_any}
use Rattle.std.proofs.Common.{◌≡◌, ◌∙◌, ℕ, zero, suc, ◌<◌, Bool, true, false, not, cond, ◌&&◌, ◌||◌, nat_eq, nat_lt, List, [], ◌∷◌, ◌++◌, filter}
use Rattle.std.proofs.Common.{flat_map, length, map, Option, Some, None, option_map, refl, sym, ap, arith}
use Rattle.std.proofs.lemmas.Bool.Decides.{nat_tests}
use Rattle.std.proofs.lemmas.List.{append-nil}
use Rattle.units.specs.Ids.{Id, same_id}
use Rattle.units.specs.Lists.{gather, has, head, numbered, when}
use Rattle.units.proofs.IdLaws.{same_id_comm}
use Rattle.record.specs.Records.{Ended, as_aborted, as_committed, as_ended, as_prepared, id_in, is_aborted}
use Rattle.record.specs.Whole.{Decision, decisions, fits_decision, is_promise_for, is_whole, is_whole_by, outcomes_fit, promises_of}
use Rattle.record.specs.declared.record.Committed.{Committed}
use Rattle.record.specs.declared.record.Record.{Record}
use Rattle.record.specs.declared.record.Record.TheVariants.{Prepare, Commit, Abort, Outcome, Settled, Closed}
use Rattle.inspector.specs.Entries.{About, about_in, entries, log_numbered, logs_from, of_txn}

-- the record is about a transaction
abbrev pub is_about : Id → Record → Bool
is_about t r = when (same_id t) (id_in r)

-- each log's records about one
abbrev pub cut : Id → List (List Record) → List (List Record)
cut t logs = map (filter (is_about t)) logs

-- ---- the logs that its records give

log_at_append : (n : ℕ) (es fs : List About) → log_numbered n (es ++ fs) ≡ log_numbered n es ++ log_numbered n fs
log_at_append n [] fs = refl
log_at_append n (e ∷ es) fs = by_test (nat_eq n e.shard) (log_at_append n es fs)
  where
    by_test : (b : Bool) → log_numbered n (es ++ fs) ≡ log_numbered n es ++ log_numbered n fs
        → map (λ (x : About). x.item) (cond b (e ∷ filter (λ x. nat_eq n x.shard) (es ++ fs)) (filter (λ x. nat_eq n x.shard) (es ++ fs)))
        ≡ map (λ (x : About). x.item) (cond b (e ∷ filter (λ x. nat_eq n x.shard) es) (filter (λ x. nat_eq n x.shard) es)) ++ log_numbered n fs
    by_test true rest = ap (λ l. e.item ∷ l) rest
    by_test false rest = rest

pub of_txn_append : (t : Id) (es fs : List About) → of_txn t (es ++ fs) ≡ of_txn t es ++ of_txn t fs
of_txn_append t [] fs = refl
of_txn_append t (e ∷ es) fs = by_test (same_id t e.txn) (of_txn_append t es fs)
  where
    by_test : (b : Bool) → of_txn t (es ++ fs) ≡ of_txn t es ++ of_txn t fs
        → cond b (e ∷ of_txn t (es ++ fs)) (of_txn t (es ++ fs)) ≡ cond b (e ∷ of_txn t es) (of_txn t es) ++ of_txn t fs
    by_test true rest = ap (λ l. e ∷ l) rest
    by_test false rest = rest

-- the records about it of one log
abbrev pub own : Id → ℕ → List Record → List About
own t n log = of_txn t (gather (about_in n) log)

own_here : (t : Id) (n : ℕ) (log : List Record) → log_numbered n (own t n log) ≡ filter (is_about t) log
own_here t n [] = refl
own_here t n (r ∷ log) = by_id (id_in r) (own_here t n log)
  where
    same_place : nat_eq n n ≡ true
    same_place = grind (arith, nat_tests)

    by_test : (u : Id) (b : Bool) → log_numbered n (own t n log) ≡ filter (is_about t) log
        → log_numbered n (cond b (record { txn = u; shard = n; item = r } ∷ own t n log) (own t n log)) ≡ cond b (r ∷ filter (is_about t) log)
        (filter (is_about t) log)
    by_test u true rest = rw same_place (ap (λ l. r ∷ l) rest)
    by_test u false rest = rest

    by_id : (o : Option Id) → log_numbered n (own t n log) ≡ filter (is_about t) log
        → log_numbered n (of_txn t (elim (option_map {U = About} (λ u. record { txn = u; shard = n; item = r }) o) as
        (λ x. List About) [ None ↦ gather (about_in n) log | Some y ↦ y ∷ gather (about_in n) log ]))
        ≡ cond (when (same_id t) o) (r ∷ filter (is_about t) log) (filter (is_about t) log)
    by_id None rest = rest
    by_id (Some u) rest = by_test u (same_id t u) rest

own_elsewhere : (t : Id) (n m : ℕ) (log : List Record) → nat_eq m n ≡ false → log_numbered m (own t n log) ≡ []
own_elsewhere t n m [] other = refl
own_elsewhere t n m (r ∷ log) other = by_id (id_in r) (own_elsewhere t n m log other)
  where
    by_test : (u : Id) (b : Bool) → log_numbered m (own t n log) ≡ []
        → log_numbered m (cond b (record { txn = u; shard = n; item = r } ∷ own t n log) (own t n log)) ≡ []
    by_test u true rest = rw other rest
    by_test u false rest = rest

    by_id : (o : Option Id) → log_numbered m (own t n log) ≡ []
        → log_numbered m (of_txn t (elim (option_map {U = About} (λ u. record { txn = u; shard = n; item = r }) o) as
        (λ x. List About) [ None ↦ gather (about_in n) log | Some y ↦ y ∷ gather (about_in n) log ])) ≡ []
    by_id None rest = rest
    by_id (Some u) rest = by_test u (same_id t u) rest

-- the records of all logs, from number n on
abbrev pub those : ℕ → List (List Record) → List About
those n logs = flat_map (λ l. gather (about_in l.0) l.1) (numbered n logs)

-- those of later logs are in no earlier one
later_elsewhere : (t : Id) (m n : ℕ) (logs : List (List Record)) → m < n → log_numbered m (of_txn t (those n logs)) ≡ []
later_elsewhere t m n [] lt = refl
later_elsewhere t m n (log ∷ logs) lt =
    let other : nat_eq m n ≡ false = grind (arith, nat_tests, lt) in
    ap (log_numbered m) (of_txn_append t (gather (about_in n) log) (those (suc n) logs))
    ∙ log_at_append m (own t n log) (of_txn t (those (suc n) logs))
    ∙ ap (λ l. l ++ log_numbered m (of_txn t (those (suc n) logs))) (own_elsewhere t n m log other)
    ∙ later_elsewhere t m (suc n) logs (omega (arith, lt))

-- the later logs don't see those of an earlier one
earlier_elsewhere : (t : Id) (k m n : ℕ) (log : List Record) (es : List About) → n < m → logs_from k m (own t n log ++ es) ≡ logs_from k m es
earlier_elsewhere t zero m n log es lt = refl
earlier_elsewhere t (suc k) m n log es lt =
    let other : nat_eq m n ≡ false = grind (arith, nat_tests, lt) in
    ap (λ l. l ∷ logs_from k (suc m) (own t n log ++ es)) (log_at_append m (own t n log) es ∙ ap (λ l. l ++ log_numbered m es) (own_elsewhere t n m log other))
    ∙ ap (λ ls. log_numbered m es ∷ ls) (earlier_elsewhere t k (suc m) n log es (omega (arith, lt)))

given : (t : Id) (n : ℕ) (logs : List (List Record)) → logs_from (length logs) n (of_txn t (those n logs)) ≡ cut t logs
given t n [] = refl
given t n (log ∷ logs) =
    let rest : List About = of_txn t (those (suc n) logs) in
    let apart : of_txn t (those n (log ∷ logs)) ≡ own t n log ++ rest = of_txn_append t (gather (about_in n) log) (those (suc n) logs) in
    ap (λ es. logs_from (suc (length logs)) n es) apart
    ∙ ap (λ l. l ∷ logs_from (length logs) (suc n) (own t n log ++ rest))
    (log_at_append n (own t n log) rest
    ∙ ap (λ l. l ++ log_numbered n rest) (own_here t n log)
    ∙ ap (λ l. filter (is_about t) log ++ l) (later_elsewhere t n (suc n) logs (omega arith))
    ∙ append-nil (filter (is_about t) log))
    ∙ ap (λ ls. filter (is_about t) log ∷ ls) (earlier_elsewhere t (length logs) (suc n) n log rest (omega arith) ∙ given t (suc n) logs)

-- ---- what the definitions ask of a log

-- what a record holds is about the id that the record is about
abbrev pub IsOf : {B : Type 0} → (Record → Option B) → (B → Id) → Type 0
IsOf {B} kind id = (r : Record) (y : B) → kind r ≡ Some y → id_in r ≡ Some (id y)

kept : {B : Type 0} (kind : Record → Option B) (id : B → Id) → IsOf kind id → (t : Id) (log : List Record)
    → filter (λ y. same_id t (id y)) (gather kind (filter (is_about t) log)) ≡ filter (λ y. same_id t (id y)) (gather kind log)
kept kind id of t [] = refl
kept {B = B} kind id of t (r ∷ log) = by_kind (kind r) refl (kept kind id of t log)
  where
    pick : List Record → List B
    pick l = filter (λ y. same_id t (id y)) (gather kind l)

    rest_of : List B → Option B → List B
    rest_of ys o = elim o as (λ x. List B) [ None ↦ ys | Some y ↦ y ∷ ys ]

    none_kept : (b : Bool) → kind r ≡ None → pick (filter (is_about t) log) ≡ pick log
        → pick (cond b (r ∷ filter (is_about t) log) (filter (is_about t) log)) ≡ pick log
    none_kept true is rest = ap (λ o. filter (λ y. same_id t (id y)) (rest_of (gather kind (filter (is_about t) log)) o)) is ∙ rest
    none_kept false is rest = rest

    one_kept : (y : B) (b : Bool) → same_id t (id y) ≡ b → kind r ≡ Some y → pick (filter (is_about t) log) ≡ pick log
        → pick (cond b (r ∷ filter (is_about t) log) (filter (is_about t) log)) ≡ cond b (y ∷ pick log) (pick log)
    one_kept y true same is rest =
        ap (λ o. filter (λ z. same_id t (id z)) (rest_of (gather kind (filter (is_about t) log)) o)) is
        ∙ ap (λ c. cond c (y ∷ pick (filter (is_about t) log)) (pick (filter (is_about t) log))) same ∙ ap (λ l. y ∷ l) rest
    one_kept y false same is rest = rest

    by_kind : (o : Option B) → kind r ≡ o → pick (filter (is_about t) log) ≡ pick log
        → pick (cond (is_about t r) (r ∷ filter (is_about t) log) (filter (is_about t) log)) ≡ filter (λ y. same_id t (id y))
        (rest_of (gather kind log) (kind r))
    by_kind None is rest =
        none_kept (is_about t r) is rest ∙ ap (λ o. filter (λ y. same_id t (id y)) (rest_of (gather kind log) o)) (sym is)
    by_kind (Some y) is rest =
        ap (λ o. pick (cond (when (same_id t) o) (r ∷ filter (is_about t) log) (filter (is_about t) log))) (of r y is)
        ∙ one_kept y (same_id t (id y)) refl is rest
        ∙ ap (λ o. filter (λ z. same_id t (id z)) (rest_of (gather kind log) o)) (sym is)

-- a test of those of one id sees no others
any_of : {B : Type 0} (p q : B → Bool) (ys : List B) → list_any (λ y. p y && q y) ys ≡ list_any q (filter p ys)
any_of p q [] = refl
any_of p q (y ∷ ys) = by_test (p y) (any_of p q ys)
  where
    by_test : (b : Bool) → list_any (λ y. p y && q y) ys ≡ list_any q (filter p ys)
        → ((b && q y) || list_any (λ y. p y && q y) ys) ≡ list_any q (cond b (y ∷ filter p ys) (filter p ys))
    by_test true rest = ap (λ b. q y || b) rest
    by_test false rest = rest

all_of : {B : Type 0} (p q : B → Bool) (ys : List B) → list_all (λ y. not (p y) || q y) ys ≡ list_all q (filter p ys)
all_of p q [] = refl
all_of p q (y ∷ ys) = by_test (p y) (all_of p q ys)
  where
    by_test : (b : Bool) → list_all (λ y. not (p y) || q y) ys ≡ list_all q (filter p ys)
        → ((not b || q y) && list_all (λ y. not (p y) || q y) ys) ≡ list_all q (cond b (y ∷ filter p ys) (filter p ys))
    by_test true rest = ap (λ b. q y && b) rest
    by_test false rest = rest

prepared_of_it : IsOf as_prepared (λ p. p.txn)
prepared_of_it (Closed u k o) y is = ap (option_map (λ q. q.txn)) is
prepared_of_it (Prepare p) y is = ap (option_map (λ q. q.txn)) is
prepared_of_it _ y is = cc

committed_of_it : IsOf as_committed (λ c. c.txn)
committed_of_it (Settled u s ps) y is = ap (option_map (λ q. q.txn)) is
committed_of_it (Commit p) y is = ap (option_map (λ q. q.txn)) is
committed_of_it _ y is = cc

aborted_of_it : IsOf as_aborted (λ u. u)
aborted_of_it (Abort u) y is = is
aborted_of_it _ y is = cc

ended_of_it : IsOf as_ended (λ e. e.txn)
ended_of_it (Settled u s ps) y is = ap (option_map (λ q. q.txn)) is
ended_of_it (Closed u k o) y is = ap (option_map (λ q. q.txn)) is
ended_of_it (Outcome u o) y is = ap (option_map (λ q. q.txn)) is
ended_of_it _ y is = cc

-- the word of a definition that asks of an id which it compares from the other side
abbrev pub has_right : {B : Type 0} → (B → Id) → Id → B → Bool
has_right id t y = same_id (id y) t

abbrev pub has_left : {B : Type 0} → (B → Id) → Id → B → Bool
has_left id t y = same_id t (id y)

turned : {B : Type 0} (id : B → Id) (t : Id) → has_right id t ≡ has_left id t
turned id t i y = same_id_comm (id y) t i

promises_cut : (t : Id) (log : List Record) → promises_of (filter (is_about t) log) t ≡ promises_of log t
promises_cut t log =
    ap (λ test. filter test (gather as_prepared (filter (is_about t) log))) (turned (λ p. p.txn) t)
    ∙ kept as_prepared (λ p. p.txn) prepared_of_it t log
    ∙ ap (λ test. filter test (gather as_prepared log)) (sym (turned (λ p. p.txn) t))

pub commits_cut : (t : Id) (log : List Record) → filter (λ c. same_id t c.txn) (gather as_committed (filter (is_about t) log)) ≡ filter (λ c. same_id t c.txn)
    (gather as_committed log)
commits_cut t log = kept as_committed (λ c. c.txn) committed_of_it t log

any_true : {B : Type 0} (p : B → Bool) (ys : List B) → list_any p ys ≡ list_any (λ y. true) (filter p ys)
any_true p ys = ap (λ test. list_any test ys) (λ i y. and_true (p y) i) ∙ any_of p (λ y. true) ys
  where
    and_true : (b : Bool) → b ≡ (b && true)
    and_true true = refl
    and_true false = refl

aborted_cut : (t : Id) (log : List Record) → is_aborted (filter (is_about t) log) t ≡ is_aborted log t
aborted_cut t log =
    any_true (same_id t) (gather as_aborted (filter (is_about t) log))
    ∙ ap (list_any (λ u. true)) (kept as_aborted (λ u. u) aborted_of_it t log)
    ∙ sym (any_true (same_id t) (gather as_aborted log))

abbrev pub is_abort : Ended → Bool
is_abort e = not (when (λ s. true) e.outcome)

ended_aborted_cut : (t : Id) (log : List Record)
    → list_any (λ e. same_id e.txn t && is_abort e) (gather as_ended (filter (is_about t) log)) ≡ list_any (λ e. same_id e.txn t && is_abort e)
    (gather as_ended log)
ended_aborted_cut t log =
    ap (λ (id_is : Ended → Bool). list_any (λ e. id_is e && is_abort e) (gather as_ended (filter (is_about t) log))) (turned (λ e. e.txn) t)
    ∙ any_of (λ e. same_id t e.txn) is_abort (gather as_ended (filter (is_about t) log))
    ∙ ap (list_any is_abort) (kept as_ended (λ e. e.txn) ended_of_it t log)
    ∙ sym (any_of (λ e. same_id t e.txn) is_abort (gather as_ended log))
    ∙ ap (λ (id_is : Ended → Bool). list_any (λ e. id_is e && is_abort e) (gather as_ended log)) (sym (turned (λ e. e.txn) t))

pub fit_cut : (t : Id) (fits : ℕ → Bool) (log : List Record) → outcomes_fit (filter (is_about t) log) t fits ≡ outcomes_fit log t fits
fit_cut t fits log =
    all_of (λ e. same_id t e.txn) (λ e. elim e.outcome [ None ↦ true | Some s ↦ fits s ]) (gather as_ended (filter (is_about t) log))
    ∙ ap (list_all (λ e. elim e.outcome [ None ↦ true | Some s ↦ fits s ])) (kept as_ended (λ e. e.txn) ended_of_it t log)
    ∙ sym (all_of (λ e. same_id t e.txn) (λ e. elim e.outcome [ None ↦ true | Some s ↦ fits s ]) (gather as_ended log))

decision_cut : (t : Id) (d : Decision) (n : ℕ) (log : List Record) → fits_decision t d (n, filter (is_about t) log) ≡ fits_decision t d (n, log)
decision_cut t d n log =
    λ i. not (aborted_cut t log i || ended_aborted_cut t log i)
    && fit_cut t (nat_eq d.commit.at) log i
    && cond (nat_eq n d.shard) true (cond (has d.commit.parts n) (is_promise_for d (promises_cut t log i)) (nat_eq (length (promises_cut t log i)) 0))

-- ---- all logs

-- the decisions of an id in one log
abbrev pub decided_in : Id → ℕ × List Record → List Decision
decided_in t l = map (λ c. record { shard = l.0; commit = c }) (filter (λ c. same_id t c.txn) (gather as_committed l.1))

decisions_cut : (t : Id) (n : ℕ) (logs : List (List Record)) → flat_map (decided_in t) (numbered n (cut t logs)) ≡ flat_map (decided_in t) (numbered n logs)
decisions_cut t n [] = refl
decisions_cut t n (log ∷ logs) =
    λ i. map (λ (c : Committed). decision n c) (commits_cut t log i) ++ decisions_cut t (suc n) logs i
  where
    decision : ℕ → Committed → Decision
    decision m c = record { shard = m; commit = c }

fits_cut : (t : Id) (d : Decision) (n : ℕ) (logs : List (List Record))
    → list_all (fits_decision t d) (numbered n (cut t logs)) ≡ list_all (fits_decision t d) (numbered n logs)
fits_cut t d n [] = refl
fits_cut t d n (log ∷ logs) = λ i. decision_cut t d n log i && fits_cut t d (suc n) logs i

never_cut : (t : Id) (logs : List (List Record)) → list_all (λ l. outcomes_fit l t (λ s. false)) (cut t logs) ≡ list_all
    (λ l. outcomes_fit l t (λ s. false)) logs
never_cut t [] = refl
never_cut t (log ∷ logs) = λ i. fit_cut t (λ s. false) log i && never_cut t logs i

cut_length : (t : Id) (logs : List (List Record)) → length (cut t logs) ≡ length logs
cut_length t [] = refl
cut_length t (log ∷ logs) = ap suc (cut_length t logs)

by_cut : (t : Id) (logs : List (List Record)) (ds : List Decision) → is_whole_by (cut t logs) t ds ≡ is_whole_by logs t ds
by_cut t logs [] = never_cut t logs
by_cut t logs (d ∷ []) =
    λ i. when (nat_eq d.shard) (head d.commit.parts) && list_all (λ n. nat_lt n (cut_length t logs i)) d.commit.parts && fits_cut t d 0 logs i
by_cut t logs (d ∷ e ∷ ds) = refl

whole_cut : (t : Id) (logs : List (List Record)) → is_whole t (cut t logs) ≡ is_whole t logs
unfolding is_whole
whole_cut t logs = ap (is_whole_by (cut t logs) t) (decisions_cut t 0 logs) ∙ by_cut t logs (decisions logs t)

-- a transaction is whole over all logs where it is so over the records about it
pub whole_by_entries : (t : Id) (logs : List (List Record)) → is_whole t (logs_from (length logs) 0 (of_txn t (entries logs))) ≡ is_whole t logs
whole_by_entries t logs = ap (is_whole t) (given t 0 logs) ∙ whole_cut t logs
