-- Which lists of records a shard takes for its log. The others are damaged, at the first record that is refused, or
-- speak of a key of another shard.
use Rattle.std.specs.List.{list_any, list_all}
use Rattle.std.specs.Prelude.{ℕ, ◌+◌, Bool, true, false, not, cond, ◌&&◌, ◌||◌, nat_eq, nat_lt, nat_le, List, [], ◌∷◌, ◌++◌, length, Option, Some, None}
use Rattle.units.specs.Limits.{most_rows}
use Rattle.units.specs.Lists.{gather, head, when}
use Rattle.units.specs.Ids.{Id, older}
use Rattle.units.specs.Keys.{Bytes, shard_of}
use Rattle.record.specs.Records.{Status, Unrecorded, StandsPrepared, StandsDecided, status_written, status_of, prepared_of, committed_of, ended_of, epoch_of}
use Rattle.record.specs.Records.{floor_of, horizon_of, retired_of, is_below, ids_of, as_opened}
use Rattle.record.specs.declared.record.Prepared.{Prepared}
use Rattle.record.specs.declared.record.Committed.{Committed}
use Rattle.record.specs.Installs.{installs_of, writes_by}
use Rattle.units.specs.Versions.{above_versions, version_before}
use Rattle.units.specs.Locks.{clash, locks_of}
use Rattle.units.specs.declared.lock.Lock.{Lock}
use Rattle.units.specs.declared.setup.Setup.{Setup}
use Rattle.units.specs.declared.writes.Install.{Install}
use Rattle.units.specs.declared.writes.Write.{Write}
use Rattle.record.specs.declared.record.Record.{Record}
use Rattle.record.specs.declared.record.Record.TheVariants.{Opened, Ceiling, Prepare, Commit, Abort, Outcome, Horizon, Base, Version, Settled, Closed, Retired}

-- the id is not retired
abbrev pub is_kept : Option Id → Id → Bool
is_kept retired t = not (is_below retired t)

-- no promise, decision or abort stands by this status
abbrev pub is_unrecorded : Status → Bool
is_unrecorded Unrecorded = true
is_unrecorded _ = false

-- no promise, decision or abort of the id stands in the log, and it is not retired
abbrev pub is_new : List Record → Id → Bool
is_new log t = is_unrecorded (status_written log t) && is_kept (retired_of log) t

-- the id is above the one below which all are retired so far
abbrev pub rises : Option Id → Id → Bool
rises None t = true
rises (Some below) t = older below t

-- an outcome follows a promise or a decision that allows it
abbrev pub outcome_fits : Option Prepared → Option Committed → Option ℕ → Bool
outcome_fits p c (Some s) = when (λ x. nat_le x.at s) p || when (λ x. nat_eq x.at s) c
outcome_fits p c None = when (λ x. true) p

-- the timestamp of an outcome, where there is one, is not 0
abbrev pub is_timed : Option ℕ → Bool
is_timed None = true
is_timed (Some at) = nat_lt 0 at

-- a base is nowhere but first
abbrev pub is_start : List Record → Bool
is_start [] = true
is_start (first ∷ before) = false

-- the record is an opening
abbrev pub opens : Record → Bool
opens (Opened epoch) = true
opens _ = false

-- the record is a base
abbrev pub is_base : Record → Bool
is_base (Base epoch floor horizon) = true
is_base _ = false

-- a version comes right behind a base, or behind a version that is before it by key and timestamp
abbrev pub goes_on : Record → Install → Bool
goes_on (Base epoch floor horizon) install = true
goes_on (Version former) install = version_before former install
goes_on _ install = false

-- so behind the last record
abbrev pub is_next : List Record → Install → Bool
is_next [] install = false
is_next (last ∷ []) install = goes_on last install
is_next (first ∷ second ∷ rest) install = is_next (second ∷ rest) install

-- transactions that ended stand in a log with a base, before its first opening
abbrev pub may_end : List Record → Bool
may_end before = list_any is_base before && not (list_any opens before)

-- the rules of one id, of the openings, of a horizon (it rises, and stays below what was assigned), and of the head of a renewed log
unfoldable pub follows : ℕ → List Record → Record → Bool
follows shard before (Opened epoch) = nat_eq epoch (epoch_of before + 1)
follows shard before (Ceiling at) = true
follows shard before (Horizon at) = nat_lt (horizon_of before) at && nat_le at (floor_of before)
follows shard before (Prepare p) = nat_lt 0 p.at && is_new before p.txn && nat_lt p.coordinator shard
follows shard before (Commit c) = nat_lt 0 c.at && is_new before c.txn && when (nat_eq shard) (head c.parts)
follows shard before (Abort t) = is_new before t
follows shard before (Outcome t outcome) =
    not (when (λ e. true) (ended_of before t)) && outcome_fits (prepared_of before t) (committed_of before t) outcome
    && is_kept (retired_of before) t
follows shard before (Base epoch floor horizon) = is_start before && nat_lt 0 epoch && nat_le horizon floor
follows shard before (Version install) = is_next before install
follows shard before (Settled t at parts) = may_end before && nat_lt 0 at && is_new before t && when (nat_eq shard) (head parts)
follows shard before (Closed t coordinator outcome) =
    may_end before && is_timed outcome && is_new before t && nat_lt coordinator shard
follows shard before (Retired below) = rises (retired_of before) below

-- the locks of each promise or decision that stands
abbrev pub standing_locks : Status → Option (List Lock)
standing_locks (StandsPrepared p) = Some (locks_of p.reads p.writes)
standing_locks (StandsDecided c) = Some (locks_of c.reads c.writes)
standing_locks _ = None

-- the locks of all of them
abbrev pub locks_standing : List Record → List (List Lock)
locks_standing log = gather (λ t. standing_locks (status_of log t)) (ids_of log)

-- the timestamp of a promise or decision that stands
abbrev pub standing_stamp : Status → Option ℕ
standing_stamp (StandsPrepared p) = Some p.at
standing_stamp (StandsDecided c) = Some c.at
standing_stamp _ = None

-- the timestamps of all of them
abbrev pub stamps_standing : List Record → List ℕ
stamps_standing log = gather (λ t. standing_stamp (status_of log t)) (ids_of log)

-- the id of a promise or decision that stands
abbrev pub standing_id : Status → Option Id
standing_id (StandsPrepared p) = Some p.txn
standing_id (StandsDecided c) = Some c.txn
standing_id _ = None

-- the ids of all of them
abbrev pub ids_standing : List Record → List Id
ids_standing log = gather (λ t. standing_id (status_of log t)) (ids_of log)

-- a new promise or decision: room among the rows, no lock in the way, above the horizon, and above the versions of what it writes
abbrev pub may_stand : List Record → ℕ → List Bytes → List Write → Bool
may_stand before at reads writes =
    nat_lt (length (locks_standing before)) most_rows
    && not (list_any (clash (locks_of reads writes)) (locks_standing before))
    && nat_lt (horizon_of before) at
    && above_versions (installs_of before) at writes

-- the rules of rows, locks, versions and the horizon, which stays below each promise and decision that stands
unfoldable pub fits_beside : List Record → Record → Bool
fits_beside before (Opened epoch) = true
fits_beside before (Ceiling at) = true
fits_beside before (Horizon at) = list_all (nat_lt at) (stamps_standing before)
fits_beside before (Prepare p) = may_stand before p.at p.reads p.writes
fits_beside before (Commit c) = may_stand before c.at c.reads c.writes
fits_beside before (Abort t) = true
fits_beside before (Outcome t None) = true
fits_beside before (Outcome t (Some at)) =
    above_versions (installs_of before) at (writes_by (committed_of before t) (prepared_of before t))
fits_beside before (Base epoch floor horizon) = true
fits_beside before (Version install) = true
fits_beside before (Settled t at parts) = true
fits_beside before (Closed t coordinator outcome) = true
fits_beside before (Retired below) = list_all (λ t. not (older t below)) (ids_standing before)

-- the first record is an opening or a base
abbrev pub begins : List Record → Record → Bool
begins [] r = when (λ epoch. true) (as_opened r)
begins (first ∷ before) r = true

-- each record follows those before it, and the first is an opening or a base
abbrev pub followed_from : ℕ → List Record → List Record → Bool
followed_from shard before [] = true
followed_from shard before (r ∷ rs) = (begins before r && follows shard before r) && followed_from shard (before ++ r ∷ []) rs

-- the rules of one id, and of the openings, over a whole list of records
unfoldable pub followed : ℕ → List Record → Bool
followed shard log = followed_from shard [] log

-- each key is of this shard
abbrev pub keys_belong : Setup → List Bytes → List Write → Bool
keys_belong setup reads writes =
    list_all (λ k. nat_eq (shard_of setup.splits k) setup.shard) reads
    && list_all (λ w. nat_eq (shard_of setup.splits w.key) setup.shard) writes

-- a record names keys of this shard alone
unfoldable pub belongs : Setup → Record → Bool
belongs setup (Opened epoch) = true
belongs setup (Ceiling at) = true
belongs setup (Horizon at) = true
belongs setup (Prepare p) = keys_belong setup p.reads p.writes
belongs setup (Commit c) = keys_belong setup c.reads c.writes
belongs setup (Abort t) = true
belongs setup (Outcome t outcome) = true
belongs setup (Base epoch floor horizon) = true
belongs setup (Version install) = nat_eq (shard_of setup.splits install.key) setup.shard
belongs setup (Settled t at parts) = true
belongs setup (Closed t coordinator outcome) = true
belongs setup (Retired below) = true

-- the verdict on a list of records
pub data Taken : Type 0 where
  Accepted : Taken
  DamagedAt : ℕ → Taken
  StrangerAt : ℕ → Taken

-- the next record after some others: a strange key comes before damage
abbrev pub taken_next : Setup → List Record → Record → ℕ → Taken → Taken
taken_next setup before r place rest =
    cond (not (belongs setup r)) (StrangerAt place)
    (cond (begins before r && follows setup.shard before r && fits_beside before r) rest (DamagedAt place))

-- each record is taken after those before it; else the place of the first that is refused
abbrev pub taken_from : Setup → List Record → ℕ → List Record → Taken
taken_from setup before place [] = Accepted
taken_from setup before place (r ∷ rs) =
    let rest : Taken = taken_from setup (before ++ r ∷ []) (place + 1) rs in taken_next setup before r place rest

-- a whole list of records
unfoldable pub taken : Setup → List Record → Taken
taken setup log = taken_from setup [] 0 log
