-- Two-phase commit as seen in the logs: a transaction is whole, and where it stands.
use Rattle.std.specs.List.{list_any, list_all}
use Rattle.std.specs.Prelude.{ℕ, Bool, true, false, not, cond, ◌&&◌, ◌||◌, nat_eq, nat_lt, nat_le, IsTrue, List, [], ◌∷◌, length, map, Option, Some}
use Rattle.std.specs.Prelude.{None, filter, flat_map}
use Rattle.units.specs.Lists.{gather, head, when, has}
use Rattle.units.specs.Ids.{Id, same_id, ids_once}
use Rattle.record.specs.Records.{Ended, as_committed, as_prepared, as_ended, committed_of, prepared_of, ended_of, is_aborted, id_in}
use Rattle.record.specs.declared.record.Prepared.{Prepared}
use Rattle.record.specs.declared.record.Committed.{Committed}
use Rattle.record.specs.History.{by_shard}
use Rattle.record.specs.declared.record.Record.{Record}

-- a commit decision of an id, with the shard in whose log it stands
pub record Decision : Type 0 where
  pub shard : ℕ
  pub commit : Committed

-- every commit decision of an id
abbrev pub decisions : List (List Record) → Id → List Decision
decisions logs t =
    flat_map (λ l. map (λ c. record { shard = l.0; commit = c }) (filter (λ c. same_id t c.txn) (gather as_committed l.1))) (by_shard logs)

-- each promise of an id in one log
abbrev pub promises_of : List Record → Id → List Prepared
promises_of log t = filter (λ p. same_id p.txn t) (gather as_prepared log)

-- a log has an abort of an id, or its outcome aborted
abbrev pub turns_down : List Record → Id → Bool
turns_down log t =
    is_aborted log t || list_any (λ e. same_id e.txn t && not (when (λ s. true) e.outcome)) (gather as_ended log)

-- a log's outcomes of an id at a timestamp all have this one
abbrev pub outcomes_fit : List Record → Id → (ℕ → Bool) → Bool
outcomes_fit log t fits =
    list_all (λ e. not (same_id t e.txn) || elim e.outcome [ None ↦ true | Some s ↦ fits s ]) (gather as_ended log)

-- exactly one promise, which names the coordinator and is not above the commit's timestamp
abbrev pub is_promise_for : Decision → List Prepared → Bool
is_promise_for d (p ∷ []) = nat_eq p.coordinator d.shard && nat_le p.at d.commit.at
is_promise_for d _ = false

-- one log beside the decision: the coordinator's, another part's, or that of a shard which takes no part
abbrev pub fits_decision : Id → Decision → ℕ × List Record → Bool
fits_decision t d l =
    not (turns_down l.1 t)
    && outcomes_fit l.1 t (nat_eq d.commit.at)
    && cond (nat_eq l.0 d.shard) true
    (cond (has d.commit.parts l.0) (is_promise_for d (promises_of l.1 t)) (nat_eq (length (promises_of l.1 t)) 0))

-- each part is the number of a log
abbrev pub parts_exist : List (List Record) → Decision → Bool
parts_exist logs d = list_all (λ n. nat_lt n (length logs)) d.commit.parts

-- with one decision every log fits it, and it stands in its least part's log; with none no log ends the id at a timestamp
abbrev pub is_whole_by : List (List Record) → Id → List Decision → Bool
is_whole_by logs t [] = list_all (λ l. outcomes_fit l t (λ s. false)) logs
is_whole_by logs t (d ∷ []) =
    when (nat_eq d.shard) (head d.commit.parts) && parts_exist logs d && list_all (fits_decision t d) (by_shard logs)
is_whole_by logs t _ = false

-- the transaction is whole over all logs
unfoldable pub is_whole : Id → List (List Record) → Bool
is_whole t logs = is_whole_by logs t (decisions logs t)

-- the ids that the logs are about, ascending
abbrev pub all_ids : List (List Record) → List Id
all_ids logs = ids_once (flat_map (gather id_in) logs)

-- every transaction is whole
abbrev pub AllWhole : List (List Record) → Type 0
AllWhole logs = (t : Id) → IsTrue (is_whole t logs)

-- the commit timestamp of an id
abbrev pub commit_time : List (List Record) → Id → Option ℕ
commit_time logs t = head (map (λ d. d.commit.at) (decisions logs t))

-- a promise without outcome takes its coordinator's commit timestamp, where there is one; else it is aborted
abbrev pub coordinator_says : List (List Record) → Prepared → Option ℕ
coordinator_says logs p = head (map (λ d. d.commit.at) (filter (λ d. nat_eq d.shard p.coordinator) (decisions logs p.txn)))

-- where the id stands at one shard: at its commit, at its outcome, or as the promise resolves
abbrev pub stands_by : List (List Record) → Option Committed → Option Ended → Option Prepared → Option ℕ
stands_by logs (Some c) e p = Some c.at
stands_by logs None (Some e) p = e.outcome
stands_by logs None None (Some p) = coordinator_says logs p
stands_by logs None None None = None

-- the timestamp at which an id stands in one of the logs
unfoldable pub stands_at : List (List Record) → List Record → Id → Option ℕ
stands_at logs log t = stands_by logs (committed_of log t) (ended_of log t) (prepared_of log t)

-- with a commit at s of some parts: the id stands at s at each part and nowhere else; without one it stands nowhere
abbrev pub resolves_by : List (List Record) → Id → List Decision → Type 0
resolves_by logs t [] = IsTrue (list_all (λ l. not (when (λ s. true) (stands_at logs l t))) logs)
resolves_by logs t (d ∷ ds) =
    IsTrue (list_all (λ l. cond (has d.commit.parts l.0) (when (nat_eq d.commit.at) (stands_at logs l.1 t))
    (not (when (λ s. true) (stands_at logs l.1 t)))) (by_shard logs))

-- an id resolves to all of its parts or to none
abbrev pub Resolves : List (List Record) → Id → Type 0
Resolves logs t = resolves_by logs t (decisions logs t)
