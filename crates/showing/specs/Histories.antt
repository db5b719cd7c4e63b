-- What the log of a shard says of a key.
use Rattle.std.specs.Prelude.{◌&&◌, ℕ, Bool, true, false, not, List, [], ◌∷◌, Option, Some, None, Result, Ok, Err, map, filter, flat_map, option_map, if◌then◌else◌, nat_lt}
use Rattle.std.specs.List.{list_any}
use Rattle.units.specs.Ids.{Id}
use Rattle.units.specs.Keys.{Bytes, same_key}
use Rattle.units.specs.Versions.{at_time, latest}
use Rattle.units.specs.declared.fault.Fault.{Fault}
use Rattle.units.specs.declared.fault.Fault.TheVariants.{Damaged, NotALog, Stranger, TooOld}
use Rattle.units.specs.declared.setup.Setup.{Setup}
use Rattle.units.specs.declared.writes.Install.{Install}
use Rattle.units.specs.declared.writes.Write.{Write}
use Rattle.record.specs.Accepted.{taken}
use Rattle.record.specs.Installs.{installs_of}
use Rattle.record.specs.Records.{ended_of, floor_of}
use Rattle.record.specs.declared.record.Record.{Record}
use Rattle.record.specs.declared.record.Record.TheVariants.{Base, Prepare, Commit, Version}
use Rattle.gatelog.specs.Log.{log}
use Rattle.frames.specs.Placed.{Placed}
use Rattle.recovery.specs.Recovered.{fault_in, items}
use Rattle.texts.specs.Numbers.{and_then}
use Rattle.showing.specs.declared.told.Standing.{Standing}
use Rattle.showing.specs.declared.told.Standing.TheVariants.{Installed, Decided, Promised}
use Rattle.showing.specs.declared.told.Told.{Told}
use Rattle.showing.specs.declared.shard_log.Found.{Found}

-- how a transaction ended by a log: not yet, or at a timestamp, or aborted
abbrev pub end_in : List Record → Id → Option (Option ℕ)
end_in records t = option_map (λ e. e.outcome) (ended_of records t)

-- how what a promise or a decision writes stands behind such an end: nowhere where that is aborted
abbrev pub standing_by : Standing → Option (Option ℕ) → Option Standing
standing_by before None = Some before
standing_by before (Some None) = None
standing_by before (Some (Some at)) = Some (Installed at)

-- what some writes of a transaction make of a key
abbrev pub told_as : Bytes → Id → List Write → Option Standing → List Told
told_as k t writes None = []
told_as k t writes (Some standing) =
    map (λ w. record { txn = Some t; standing = standing; value = w.value }) (filter (λ w. same_key w.key k) writes)

-- what a version that a renewed log holds makes of a key; whose it was is not kept
abbrev pub version_told : Bytes → Install → List Told
version_told k i =
    if same_key i.key k then (record { txn = None; standing = Installed i.at; value = i.value }) ∷ [] else []

-- what a record says of a key, by the ends of transactions
abbrev pub told_by : (Id → Option (Option ℕ)) → Bytes → Record → List Told
told_by ends k (Prepare p) = told_as k p.txn p.writes (standing_by (Promised p.at) (ends p.txn))
told_by ends k (Commit c) = told_as k c.txn c.writes (standing_by (Decided c.at) (ends c.txn))
told_by ends k (Version install) = version_told k install
told_by ends k _ = []

-- what a log says of a key: each write that was promised or decided and not aborted, in order, with how it stands, and each version
-- that a renewed log holds
abbrev pub history : List Record → Bytes → List Told
history records k = flat_map (told_by (end_in records) k) records

-- the value of a key by some versions: at a timestamp, or by the latest of them
abbrev pub value_with : List Install → Bytes → Option ℕ → Option Bytes
value_with installs k None = latest installs k
value_with installs k (Some at) = at_time installs k at

-- the value of a key by the versions of a log
abbrev pub value_by : List Record → Bytes → Option ℕ → Option Bytes
value_by records k at = value_with (installs_of records) k at

-- some entries as a shard takes them for its log, or why it does not
abbrev pub unless_refused : List Record → Option Fault → Result (List Record) Fault
unless_refused records None = Ok records
unless_refused records (Some fault) = Err fault

abbrev pub taken_entries : Setup → List Placed → Result (List Record) Fault
taken_entries setup entries = unless_refused (items entries) (fault_in (taken setup (items entries)) entries)

-- the records of a file that its shard takes for its log
abbrev pub log_in : Setup → List ℕ → Result (List Record) Fault
log_in setup image = and_then (log image) (taken_entries setup)

-- from when on a log is whole: that of a renewed log has only what holds from its horizon on
abbrev pub whole_from : List Record → Option ℕ
whole_from (Base epoch floor horizon ∷ rest) = Some horizon
whole_from _ = None

-- the timestamp lies below it
abbrev pub is_below : Option ℕ → Option ℕ → Bool
is_below (Some at) (Some from) = nat_lt at from
is_below _ _ = false

-- a value that can be told, and one that can not
abbrev pub unless_below : Bool → Option Bytes → Result (Option Bytes) Fault
unless_below true value = Err TooOld
unless_below false value = Ok value

abbrev pub history_in : Setup → Bytes → List ℕ → Result (Option ℕ × List Told) Fault
history_in setup k image = and_then (log_in setup image) (λ records. Ok (whole_from records, history records k))

-- the value of a key by a log, if that is whole from the timestamp on
abbrev pub value_told : List Record → Bytes → Option ℕ → Result (Option Bytes) Fault
value_told records k at = unless_below (is_below at (whole_from records)) (value_by records k at)

-- a write that stands so may become a version at this timestamp or before it
abbrev pub may_come_by : ℕ → Standing → Bool
may_come_by at (Installed from) = false
may_come_by at (Decided from) = not (nat_lt at from)
may_come_by at (Promised from) = not (nat_lt at from)

-- no write of a key can come any more at this timestamp or before it: the log has a timestamp as great, and nothing as low stands without an outcome
abbrev pub settled_by : ℕ → List Told → ℕ → Bool
settled_by floor told at = not (nat_lt floor at) && not (list_any (λ t. may_come_by at t.standing) told)

abbrev pub is_settled_at : List Record → Bytes → ℕ → Bool
is_settled_at records k at = settled_by (floor_of records) (history records k) at

abbrev pub is_settled : List Record → Bytes → Option ℕ → Bool
is_settled records k None = true
is_settled records k (Some at) = is_settled_at records k at

-- what is found, which is settled or not
abbrev pub as_found : Bool → Option Bytes → Found
as_found settled value = record { value = value; is_settled = settled }

abbrev pub found_by : List Record → Bytes → Option ℕ → Result Found Fault
found_by records k at = and_then (value_told records k at) (λ value. Ok (as_found (is_settled records k at) value))

abbrev pub value_in : Setup → Bytes → Option ℕ → List ℕ → Result Found Fault
value_in setup k at image = and_then (log_in setup image) (λ records. found_by records k at)

-- why a file does not hold the log of its shard, whatever it is
abbrev pub is_no_shard_log : Fault → Bool
is_no_shard_log NotALog = true
is_no_shard_log (Damaged offset) = true
is_no_shard_log Stranger = true
is_no_shard_log _ = false
