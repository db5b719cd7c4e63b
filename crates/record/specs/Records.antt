-- What a log says, each fact read from the set of its records.
use Rattle.std.specs.List.{list_any}
use Rattle.std.specs.Prelude.{ℕ, Bool, true, false, cond, List, [], ◌∷◌, Option, Some, None}
use Rattle.units.specs.Lists.{gather, first, greatest}
use Rattle.units.specs.Ids.{Id, same_id, older, ids_once}
use Rattle.units.specs.declared.writes.Install.{Install}
use Rattle.record.specs.declared.record.Committed.{Committed}
use Rattle.record.specs.declared.record.Prepared.{Prepared}
use Rattle.record.specs.declared.record.Record.{Record}
use Rattle.record.specs.declared.record.Record.TheVariants.{Opened, Ceiling, Prepare, Commit, Abort, Outcome, Horizon, Base, Version, Settled, Closed, Retired}

-- how a transaction ended at a shard: at a timestamp, or aborted
pub record Ended : Type 0 where
  pub txn : Id
  pub outcome : Option ℕ

-- the record as an opening's epoch; a base keeps that of the last one
abbrev pub as_opened : Record → Option ℕ
as_opened (Opened epoch) = Some epoch
as_opened (Base epoch floor horizon) = Some epoch
as_opened _ = None

-- the timestamp of an outcome, 0 where there is none
abbrev pub or_least : Option ℕ → ℕ
or_least None = 0
or_least (Some at) = at

-- what is left of a promise that has its outcome
abbrev pub closed_promise : Id → ℕ → Option ℕ → Prepared
closed_promise t coordinator outcome = record { txn = t; coordinator = coordinator; at = or_least outcome; reads = []; writes = [] }

-- what is left of a decision that has its outcome
abbrev pub settled_decision : Id → ℕ → List ℕ → Committed
settled_decision t at parts = record { txn = t; at = at; parts = parts; reads = []; writes = [] }

-- the record as a prepared part
abbrev pub as_prepared : Record → Option Prepared
as_prepared (Prepare p) = Some p
as_prepared (Closed t coordinator outcome) = Some (closed_promise t coordinator outcome)
as_prepared _ = None

-- the record as a commit decision
abbrev pub as_committed : Record → Option Committed
as_committed (Commit c) = Some c
as_committed (Settled t at parts) = Some (settled_decision t at parts)
as_committed _ = None

-- the record as an abort decision
abbrev pub as_aborted : Record → Option Id
as_aborted (Abort t) = Some t
as_aborted _ = None

-- the record as an outcome
abbrev pub as_ended : Record → Option Ended
as_ended (Outcome t o) = Some (record { txn = t; outcome = o })
as_ended (Settled t at parts) = Some (record { txn = t; outcome = Some at })
as_ended (Closed t coordinator outcome) = Some (record { txn = t; outcome = outcome })
as_ended _ = None

-- the record as a horizon
abbrev pub as_horizon : Record → Option ℕ
as_horizon (Horizon at) = Some at
as_horizon (Base epoch floor horizon) = Some horizon
as_horizon _ = None

-- the record as the id below which all are retired
abbrev pub as_retired : Record → Option Id
as_retired (Retired below) = Some below
as_retired _ = None

-- the record as a version
abbrev pub as_version : Record → Option Install
as_version (Version install) = Some install
as_version _ = None

-- the timestamp that a record brings; a horizon is one that the log already covers
abbrev pub stamp_in : Record → Option ℕ
stamp_in (Opened epoch) = None
stamp_in (Ceiling at) = Some at
stamp_in (Horizon at) = None
stamp_in (Prepare p) = Some p.at
stamp_in (Commit c) = Some c.at
stamp_in (Abort t) = None
stamp_in (Outcome t o) = o
stamp_in (Base epoch floor horizon) = Some floor
stamp_in (Version install) = Some install.at
stamp_in (Settled t at parts) = Some at
stamp_in (Closed t coordinator outcome) = outcome
stamp_in (Retired below) = None

-- the id that a record is about
abbrev pub id_in : Record → Option Id
id_in (Opened epoch) = None
id_in (Ceiling at) = None
id_in (Horizon at) = None
id_in (Prepare p) = Some p.txn
id_in (Commit c) = Some c.txn
id_in (Abort t) = Some t
id_in (Outcome t o) = Some t
id_in (Base epoch floor horizon) = None
id_in (Version install) = None
id_in (Settled t at parts) = Some t
id_in (Closed t coordinator outcome) = Some t
id_in (Retired below) = None

-- the epoch: the greatest of the openings and the base
abbrev pub epoch_of : List Record → ℕ
epoch_of log = greatest (gather as_opened log)

-- the floor: the greatest timestamp, 0 where there is none
abbrev pub floor_of : List Record → ℕ
floor_of log = greatest (gather stamp_in log)

-- the horizon, below which no value is read: the greatest of the log, 0 where there is none
abbrev pub horizon_of : List Record → ℕ
horizon_of log = greatest (gather as_horizon log)

-- the last of some ids, after one that may be there
abbrev pub last_id : Option Id → List Id → Option Id
last_id former [] = former
last_id former (t ∷ ts) = last_id (Some t) ts

-- the id below which all are retired: the last one of the log, since they rise
abbrev pub retired_of : List Record → Option Id
retired_of log = last_id None (gather as_retired log)

-- the id is below that one, if there is one
abbrev pub is_below : Option Id → Id → Bool
is_below None t = false
is_below (Some below) t = older t below

-- what the log prepared of an id
abbrev pub prepared_of : List Record → Id → Option Prepared
prepared_of log t = first (λ p. same_id p.txn t) (gather as_prepared log)

-- the log's commit decision of an id
abbrev pub committed_of : List Record → Id → Option Committed
committed_of log t = first (λ c. same_id c.txn t) (gather as_committed log)

-- the log has an abort decision of an id
abbrev pub is_aborted : List Record → Id → Bool
is_aborted log t = list_any (same_id t) (gather as_aborted log)

-- the log's outcome of an id
abbrev pub ended_of : List Record → Id → Option Ended
ended_of log t = first (λ e. same_id e.txn t) (gather as_ended log)

-- the ids that the log is about, ascending
abbrev pub ids_of : List Record → List Id
ids_of log = ids_once (gather id_in log)

-- the status of an id: nothing, a promise or a decision that stands, or how it ended
pub data Status : Type 0 where
  Unrecorded : Status
  StandsPrepared : Prepared → Status
  StandsDecided : Committed → Status
  HasAborted : Status
  HasSettled : (at : ℕ) → (parts : List ℕ) → Status
  HasClosed : (coordinator : ℕ) → (outcome : Option ℕ) → Status

-- the status by the abort decision, the commit decision, the promise and the outcome
abbrev pub status_by : Bool → Option Committed → Option Prepared → Option Ended → Status
status_by true c p e = HasAborted
status_by false (Some c) p (Some e) = HasSettled c.at c.parts
status_by false (Some c) p None = StandsDecided c
status_by false None (Some p) (Some e) = HasClosed p.coordinator e.outcome
status_by false None (Some p) None = StandsPrepared p
status_by false None None e = Unrecorded

-- the status of an id by all records, also of one that is retired
unfoldable pub status_written : List Record → Id → Status
status_written log t = status_by (is_aborted log t) (committed_of log t) (prepared_of log t) (ended_of log t)

-- the status of an id in a log, which keeps none of one that is retired
unfoldable pub status_of : List Record → Id → Status
status_of log t = cond (is_below (retired_of log) t) Unrecorded (status_written log t)
