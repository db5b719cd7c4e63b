-- A transaction is in the history of some logs where one of them decides it.
use Rattle.std.specs.List.{list_any}
use Rattle.std.proofs.Common.{◌≡◌, ℕ, suc, Bool, true, false, ◌&&◌, ◌||◌, cond, nat_eq, List, [], ◌∷◌, Option, Some, None, refl, ap, ◌∙◌, flat_map}
use Rattle.units.specs.Ids.{Id, same_id}
use Rattle.units.specs.Lists.{gather, head, numbered, when}
use Rattle.units.proofs.Folds.{any_append, is_there, there_first}
use Rattle.record.specs.History.{Txn, find_txn, history, whole_txn}
use Rattle.record.specs.Records.{as_committed}
use Rattle.record.specs.declared.record.Committed.{Committed}
use Rattle.record.specs.declared.record.Record.{Record}
use Rattle.world.specs.Counts.{commits_here, is_decided}

-- a commit decision in the log of its least part
abbrev in_least : List (List Record) → ℕ → Committed → Option Txn
in_least all n c = cond (when (nat_eq n) (head c.parts)) (Some (whole_txn all n c)) None

abbrev kept_of : List (List Record) → ℕ → List Record → List Txn
kept_of all n log = gather (in_least all n) (gather as_committed log)

one_log : (all : List (List Record)) (t : Id) (n : ℕ) (log : List Record) → list_any (λ u. same_id u.txn t) (kept_of all n log) ≡ commits_here t n log
one_log all t n [] = refl
one_log all t n (r ∷ log) = by_record (one_log all t n log) (as_committed r)
  where
    and_true : (b : Bool) → b ≡ (b && true)
    and_true true = refl
    and_true false = refl

    and_false : (b : Bool) → false ≡ (b && false)
    and_false true = refl
    and_false false = refl

    by_least : list_any (λ u. same_id u.txn t) (kept_of all n log) ≡ commits_here t n log → (c : Committed) (b : Bool)
        → list_any (λ u. same_id u.txn t) (elim (cond b (Some (whole_txn all n c)) None) as
        (λ x. List Txn) [ None ↦ kept_of all n log | Some y ↦ y ∷ kept_of all n log ])
        ≡ ((same_id c.txn t && b) || commits_here t n log)
    by_least rest c true = λ i. and_true (same_id c.txn t) i || rest i
    by_least rest c false = rest ∙ ap (λ b. b || commits_here t n log) (and_false (same_id c.txn t))

    by_record : list_any (λ u. same_id u.txn t) (kept_of all n log) ≡ commits_here t n log → (o : Option Committed)
        → list_any (λ u. same_id u.txn t) (gather (in_least all n)
        (elim o as (λ x. List Committed) [ None ↦ gather as_committed log | Some y ↦ y ∷ gather as_committed log ]))
        ≡ (when (λ c. same_id c.txn t && when (nat_eq n) (head c.parts)) o || commits_here t n log)
    by_record rest None = rest
    by_record rest (Some c) = by_least rest c (when (nat_eq n) (head c.parts))

all_logs : (all : List (List Record)) (t : Id) (n : ℕ) (logs : List (List Record)) → list_any (λ u. same_id u.txn t)
    (flat_map (λ l. kept_of all l.0 l.1) (numbered n logs)) ≡ is_decided t n logs
all_logs all t n [] = refl
all_logs all t n (log ∷ logs) =
    any_append (λ u. same_id u.txn t) (kept_of all n log) (flat_map (λ l. kept_of all l.0 l.1) (numbered (suc n) logs))
    ∙ (λ i. one_log all t n log i || all_logs all t (suc n) logs i)

is_when : {A : Type 0} (o : Option A) → when (λ u. true) o ≡ is_there o
is_when None = refl
is_when (Some x) = refl

pub decided_is : (logs : List (List Record)) (t : Id) → when (λ u. true) (find_txn (history logs) t) ≡ is_decided t 0 logs
unfolding history
decided_is logs t =
    is_when (find_txn (flat_map (λ l. kept_of logs l.0 l.1) (numbered 0 logs)) t) ∙ there_first (λ u. same_id u.txn t)
    (flat_map (λ l. kept_of logs l.0 l.1) (numbered 0 logs)) ∙ all_logs logs t 0 logs
