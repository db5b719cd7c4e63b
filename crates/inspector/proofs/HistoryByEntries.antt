-- The history of the logs, with what was promised found among the records about each transaction.
use Rattle.std.proofs.Common.{◌≡◌, ◌∙◌, ℕ, suc, Bool, true, false, not, cond, ◌&&◌, nat_eq, List, [], ◌∷◌, ◌++◌, filter, flat_map, Option, Some, None, refl, ap}
use Rattle.units.specs.Ids.{Id, same_id}
use Rattle.units.specs.Lists.{gather, head, numbered, when}
use Rattle.units.proofs.Folds.{gather_append}
use Rattle.units.proofs.IdLaws.{same_id_comm}
use Rattle.record.specs.History.{history, whole_txn}
use Rattle.record.specs.Records.{as_committed, as_prepared, closed_promise}
use Rattle.record.specs.declared.record.Committed.{Committed}
use Rattle.record.specs.declared.record.Prepared.{Prepared}
use Rattle.record.specs.declared.record.Record.{Record}
use Rattle.record.specs.declared.record.Record.TheVariants.{Opened, Ceiling, Prepare, Commit, Abort, Outcome, Horizon, Base, Version, Settled, Closed, Retired}
use Rattle.inspector.specs.Decided.{decided_in, promised_in, whole_in}
use Rattle.inspector.specs.Entries.{About, about_in, entries, of_txn}
use Rattle.inspector.proofs.WholeByEntries.{of_txn_append, own, those}

-- the promises of an id in one log, where it is not that of a shard
abbrev pub promised_here : Id → ℕ → ℕ → List Record → List Prepared
promised_here t shard n log = filter (λ p. same_id p.txn t && not (nat_eq n shard)) (gather as_prepared log)

-- a record without a promise
no_promise : (t u : Id) (shard n : ℕ) (r : Record) (log : List Record) → as_prepared r ≡ None → promised_in shard (own t n log) ≡ promised_here t shard n log
    → promised_in shard (cond (same_id t u) (record { txn = u; shard = n; item = r } ∷ own t n log) (own t n log)) ≡ promised_here t shard n log
no_promise t u shard n r log none rest = by_test (same_id t u)
  where
    rest_of : Option Prepared → List Prepared
    rest_of o = elim o as (λ x. List Prepared) [ None ↦ promised_in shard (own t n log) | Some y ↦ y ∷ promised_in shard (own t n log) ]

    by_shard_test : (b : Bool) → cond b None (as_prepared r) ≡ None
    by_shard_test true = refl
    by_shard_test false = none

    by_test : (b : Bool) → promised_in shard (cond b (record { txn = u; shard = n; item = r } ∷ own t n log) (own t n log)) ≡ promised_here t shard n log
    by_test true = ap rest_of (by_shard_test (nat_eq n shard)) ∙ rest
    by_test false = rest

-- a record with one
a_promise : (t : Id) (shard n : ℕ) (r : Record) (p : Prepared) (log : List Record) → as_prepared r ≡ Some p
    → promised_in shard (own t n log) ≡ promised_here t shard n log
    → promised_in shard (cond (same_id t p.txn) (record { txn = p.txn; shard = n; item = r } ∷ own t n log) (own t n log))
    ≡ cond (same_id p.txn t && not (nat_eq n shard)) (p ∷ promised_here t shard n log) (promised_here t shard n log)
a_promise t shard n r p log is rest =
    by_tests (same_id t p.txn)
    ∙ ap (λ b. cond (b && not (nat_eq n shard)) (p ∷ promised_here t shard n log) (promised_here t shard n log)) (same_id_comm t p.txn)
  where
    rest_of : Option Prepared → List Prepared
    rest_of o = elim o as (λ x. List Prepared) [ None ↦ promised_in shard (own t n log) | Some y ↦ y ∷ promised_in shard (own t n log) ]

    by_here : (b : Bool) → rest_of (cond b None (Some p)) ≡ cond (not b) (p ∷ promised_here t shard n log) (promised_here t shard n log)
    by_here true = rest
    by_here false = ap (λ l. p ∷ l) rest

    by_tests : (a : Bool) → promised_in shard (cond a (record { txn = p.txn; shard = n; item = r } ∷ own t n log) (own t n log))
        ≡ cond (a && not (nat_eq n shard)) (p ∷ promised_here t shard n log) (promised_here t shard n log)
    by_tests true = ap (λ o. rest_of (cond (nat_eq n shard) None o)) is ∙ by_here (nat_eq n shard)
    by_tests false = rest

one_log : (t : Id) (shard n : ℕ) (log : List Record) → promised_in shard (own t n log) ≡ promised_here t shard n log
one_log t shard n [] = refl
one_log t shard n (Opened e ∷ log) = one_log t shard n log
one_log t shard n (Ceiling a ∷ log) = one_log t shard n log
one_log t shard n (Horizon a ∷ log) = one_log t shard n log
one_log t shard n (Retired b ∷ log) = one_log t shard n log
one_log t shard n (Base e f h ∷ log) = one_log t shard n log
one_log t shard n (Version v ∷ log) = one_log t shard n log
one_log t shard n (Commit c ∷ log) = no_promise t c.txn shard n (Commit c) log refl (one_log t shard n log)
one_log t shard n (Abort u ∷ log) = no_promise t u shard n (Abort u) log refl (one_log t shard n log)
one_log t shard n (Outcome u o ∷ log) = no_promise t u shard n (Outcome u o) log refl (one_log t shard n log)
one_log t shard n (Settled u s ps ∷ log) = no_promise t u shard n (Settled u s ps) log refl (one_log t shard n log)
one_log t shard n (Closed u k o ∷ log) = a_promise t shard n (Closed u k o) (closed_promise u k o) log refl (one_log t shard n log)
one_log t shard n (Prepare p ∷ log) = a_promise t shard n (Prepare p) p log refl (one_log t shard n log)

-- of all logs
promised_from : (t : Id) (shard n : ℕ) (logs : List (List Record))
    → promised_in shard (of_txn t (those n logs)) ≡ flat_map (λ l. promised_here t shard l.0 l.1) (numbered n logs)
promised_from t shard n [] = refl
promised_from t shard n (log ∷ logs) =
    ap (promised_in shard) (of_txn_append t (gather (about_in n) log) (those (suc n) logs))
    ∙ gather_append (λ e. cond (nat_eq e.shard shard) None (as_prepared e.item)) (own t n log) (of_txn t (those (suc n) logs))
    ∙ λ i. one_log t shard n log i ++ promised_from t shard (suc n) logs i

whole_is : (logs : List (List Record)) (es : List About) → ((t : Id) → of_txn t es ≡ of_txn t (entries logs)) → (shard : ℕ) (c : Committed)
    → whole_in shard c (of_txn c.txn es) ≡ whole_txn logs shard c
whole_is logs es same shard c =
    λ i. record {
      txn = c.txn;
      at = c.at;
      writes = c.writes ++ flat_map (λ p. p.writes)
          ((ap (promised_in shard) (same c.txn) ∙ promised_from c.txn shard 0 logs) i);
    }

decided_is : (logs : List (List Record)) (es : List About) → ((t : Id) → of_txn t es ≡ of_txn t (entries logs)) → (n : ℕ) (ls : List (List Record))
    → flat_map (decided_in es) (numbered n ls)
    ≡ flat_map (λ l. gather (λ c. cond (when (nat_eq l.0) (head c.parts)) (Some (whole_txn logs l.0 c)) None) (gather as_committed l.1)) (numbered n ls)
decided_is logs es same n [] = refl
decided_is logs es same n (l ∷ ls) =
    λ i. gather (λ (c : Committed). cond (when (nat_eq n) (head c.parts)) (Some (whole_is logs es same n c i)) None) (gather as_committed l)
    ++ decided_is logs es same (suc n) ls i

pub history_is : (logs : List (List Record)) (es : List About) → ((t : Id) → of_txn t es ≡ of_txn t (entries logs))
    → flat_map (decided_in es) (numbered 0 logs) ≡ history logs
unfolding history
history_is logs es same = decided_is logs es same 0 logs
