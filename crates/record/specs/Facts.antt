-- The part of a shard's state that its log determines, and how one more record changes it.
use Rattle.std.specs.Prelude.{ℕ, not, cond, max, List, [], ◌∷◌, ◌++◌, map, Option, Some, None, filter}
use Rattle.units.specs.Lists.{first}
use Rattle.units.specs.Ids.{Id, same_id, older}
use Rattle.record.specs.Records.{Status, Unrecorded, StandsPrepared, StandsDecided, HasAborted, HasSettled, HasClosed, status_written, ids_of, epoch_of}
use Rattle.record.specs.Records.{floor_of, horizon_of, retired_of, is_below, stamp_in}
use Rattle.record.specs.Installs.{installs_of}
use Rattle.units.specs.Versions.{versions}
use Rattle.units.specs.declared.writes.Install.{Install}
use Rattle.record.specs.declared.record.Record.{Record}
use Rattle.record.specs.declared.record.Record.TheVariants.{Opened, Ceiling, Prepare, Commit, Abort, Outcome, Horizon, Base, Version, Settled, Closed, Retired}

-- an id and its status
pub record TxnStatus : Type 0 where
  pub txn : Id
  pub status : Status

-- the epoch, the greatest timestamp, the status of each id that has a record (ascending by id), the versions in the
-- log's order, the horizon, below which no value is read, and the id below which all are retired
pub record Facts : Type 0 where
  pub epoch : ℕ
  pub floor : ℕ
  pub entries : List TxnStatus
  pub installs : List Install
  pub horizon : ℕ
  pub retired : Option Id

-- facts, by their parts
abbrev pub facts_with : ℕ → ℕ → List TxnStatus → List Install → ℕ → Option Id → Facts
facts_with epoch floor entries installs horizon retired =
    record { epoch = epoch; floor = floor; entries = entries; installs = installs; horizon = horizon; retired = retired }

-- the facts before any record
abbrev pub no_facts : Facts
no_facts = facts_with 0 0 [] [] 0 None

-- the entries of ids that are not retired
abbrev pub kept_entries : Option Id → List TxnStatus → List TxnStatus
kept_entries retired entries = filter (λ e. not (is_below retired e.txn)) entries

-- the facts of a log, read from the set of its records
unfoldable pub facts_of : List Record → Facts
facts_of log =
    record {
      epoch = epoch_of log;
      floor = floor_of log;
      entries = kept_entries (retired_of log) (map (λ t. record { txn = t; status = status_written log t }) (ids_of log));
      installs = installs_of log;
      horizon = horizon_of log;
      retired = retired_of log;
    }

-- the status of an id
abbrev pub or_unrecorded : Option TxnStatus → Status
or_unrecorded None = Unrecorded
or_unrecorded (Some e) = e.status

-- the status of an id
abbrev pub recorded : Facts → Id → Status
recorded facts t = or_unrecorded (first (λ e. same_id e.txn t) facts.entries)

-- the entries with the status of an id given anew, by ascending id
abbrev pub with_status : List TxnStatus → Id → Status → List TxnStatus
with_status [] t status = record { txn = t; status = status } ∷ []
with_status (e ∷ es) t status =
    cond (same_id e.txn t) (record { txn = t; status = status } ∷ es)
    (cond (older e.txn t) (e ∷ with_status es t status) (record { txn = t; status = status } ∷ e ∷ es))

-- what an outcome makes of a status
abbrev pub after_outcome : Status → Option ℕ → Status
after_outcome (StandsPrepared p) outcome = HasClosed p.coordinator outcome
after_outcome (StandsDecided c) outcome = HasSettled c.at c.parts
after_outcome status outcome = status

-- what an outcome at a timestamp installs
abbrev pub installs_at : Status → Option ℕ → List Install
installs_at (StandsPrepared p) (Some s) = versions p.writes s
installs_at (StandsDecided c) (Some s) = versions c.writes s
installs_at _ _ = []

-- the facts with one more status
abbrev pub set_status : Facts → Id → Status → Facts
set_status facts t status = record facts { entries = with_status facts.entries t status }

-- a timestamp raises the floor
abbrev pub or_floor : ℕ → Option ℕ → ℕ
or_floor floor None = floor
or_floor floor (Some at) = max floor at

-- the statuses, the epoch, the versions and the horizon after one more record
abbrev pub with_record_noted : Facts → Record → Facts
with_record_noted facts (Opened epoch) = record facts { epoch = epoch }
with_record_noted facts (Ceiling at) = facts
with_record_noted facts (Horizon at) = record facts { horizon = max facts.horizon at }
with_record_noted facts (Prepare p) = set_status facts p.txn (StandsPrepared p)
with_record_noted facts (Commit c) = set_status facts c.txn (StandsDecided c)
with_record_noted facts (Abort t) = set_status facts t HasAborted
with_record_noted facts (Outcome t outcome) =
    record (set_status facts t (after_outcome (recorded facts t) outcome)) {
      installs = facts.installs ++ installs_at (recorded facts t) outcome;
    }
with_record_noted facts (Base epoch floor horizon) = record facts { epoch = epoch; horizon = max facts.horizon horizon }
with_record_noted facts (Version install) = record facts { installs = facts.installs ++ install ∷ [] }
with_record_noted facts (Settled t at parts) = set_status facts t (HasSettled at parts)
with_record_noted facts (Closed t coordinator outcome) = set_status facts t (HasClosed coordinator outcome)
with_record_noted facts (Retired below) = record facts { retired = Some below; entries = kept_entries (Some below) facts.entries }

-- the facts after one more record
unfoldable pub learn : Facts → Record → Facts
learn facts r = record (with_record_noted facts r) { floor = or_floor facts.floor (stamp_in r) }
