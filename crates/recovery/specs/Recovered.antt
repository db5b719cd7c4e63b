-- What a log leaves of its shard, told record by record from the facts alone.
use Rattle.std.specs.Prelude.{◌≡◌, ℕ, ◌<◌, ◌≤◌, IsTrue, nat_le, Bool, true, false, not, cond, ◌&&◌, nat_eq, nat_lt, List, [], ◌∷◌, map, Option, Some}
use Rattle.std.specs.Prelude.{None, slice_get}
use Rattle.std.specs.List.{AllByRecursion, list_all}
use Rattle.units.specs.Lists.{follow}
use Rattle.units.specs.ById.{IsById}
use Rattle.units.specs.Keys.{Bytes}
use Rattle.units.specs.Versions.{above_versions}
use Rattle.units.specs.declared.fault.Fault.{Fault}
use Rattle.units.specs.declared.setup.Setup.{Setup}
use Rattle.units.specs.declared.writes.Write.{Write}
use Rattle.record.specs.Accepted.{Taken, Accepted, DamagedAt, StrangerAt, belongs}
use Rattle.record.specs.Facts.{TxnStatus, Facts, facts_of}
use Rattle.record.specs.Records.{Status, StandsPrepared, StandsDecided}
use Rattle.record.specs.declared.record.Record.{Record}
use Rattle.facts.specs.Stages.{follows_next, is_head}
use Rattle.facts.specs.declared.stage.Stage.{Stage}
use Rattle.frames.specs.Placed.{Placed}
use Rattle.protocol.specs.Beside.{fits_facts}
use Rattle.protocol.specs.Rows.{rebuilt}
use Rattle.protocol.specs.Sound.{IsSound}
use Rattle.memory.specs.Kept.{Kept}

-- the records of some entries
abbrev pub items : List Placed → List Record
items entries = map (λ e. e.item) entries

-- the first opening, or the base of a renewed log
abbrev pub is_first : Record → Bool
is_first (Record.Opened epoch) = nat_eq epoch 1
is_first (Record.Base epoch floor horizon) = nat_lt 0 epoch && nat_le horizon floor
is_first (Record.Ceiling at) = false
is_first (Record.Horizon at) = false
is_first (Record.Prepare p) = false
is_first (Record.Commit c) = false
is_first (Record.Abort t) = false
is_first (Record.Outcome t outcome) = false
is_first (Record.Version install) = false
is_first (Record.Settled t at parts) = false
is_first (Record.Closed t coordinator outcome) = false
is_first (Record.Retired below) = false

-- the numbers of a base
abbrev pub base_in : Record → Option (ℕ × ℕ × ℕ)
base_in (Record.Base epoch floor horizon) = Some (epoch, floor, horizon)
base_in _ = None

-- why the next record is refused, where it is: a strange key comes before damage
abbrev pub fault_next : Setup → Stage → Facts → Placed → Option Fault
fault_next setup stage facts e =
    cond (not (belongs setup e.item)) (Some Fault.Stranger)
    (cond (follows_next setup.shard stage facts e.item && fits_facts facts e.item) None (Some (Fault.Damaged e.offset)))

-- what a verdict on some entries says of them
abbrev pub fault_in : Taken → List Placed → Option Fault
fault_in Accepted entries = None
fault_in (DamagedAt place) entries = follow (slice_get entries place) (λ e. Some (Fault.Damaged e.offset))
fault_in (StrangerAt place) entries = Some Fault.Stranger

-- a promise or a decision stands under its own id
abbrev pub IsOwn : TxnStatus → Type 0
IsOwn e = elim e.status [ StandsPrepared p ↦ p.txn ≡ e.txn | StandsDecided c ↦ c.txn ≡ e.txn | _ ↦ Unit {0} ]

-- what a promise or a decision that stands is about
pub record Part : Type 0 where
  pub at : ℕ
  pub reads : List Bytes
  pub writes : List Write

abbrev pub part_of : Status → Option Part
part_of (StandsPrepared p) = Some (record { at = p.at; reads = p.reads; writes = p.writes })
part_of (StandsDecided c) = Some (record { at = c.at; reads = c.reads; writes = c.writes })
part_of _ = None

-- its timestamp is one of the log's, above the horizon, and above the versions of what it writes
pub record MayStandNext (facts : Facts) (x : Part) : Type 0 where
  pub above_zero : 0 < x.at
  pub above_horizon : facts.horizon < x.at
  pub assigned : x.at ≤ facts.floor
  pub above : IsTrue (above_versions facts.installs x.at x.writes)

abbrev pub IsGoodPart : Facts → Option Part → Type 0
IsGoodPart facts None = Unit {0}
IsGoodPart facts (Some x) = MayStandNext facts x

abbrev pub IsGood : Facts → TxnStatus → Type 0
IsGood facts e = IsGoodPart facts (part_of e.status)

-- in the head of a log no transaction has a record
abbrev pub head_is_bare : Stage → List TxnStatus → Bool
head_is_bare stage [] = true
head_is_bare stage (e ∷ es) = not (is_head stage)

-- the memory is what the log's facts leave of it, and the facts are those of a log that was opened and taken
pub record IsRecovered (k : Kept) : Type 0 where
  pub memory : k.memory ≡ rebuilt k.facts
  pub opened : 0 < k.facts.epoch
  pub order : IsById (λ e. e.txn) k.facts.entries
  pub own : AllByRecursion IsOwn k.facts.entries
  pub good : AllByRecursion (IsGood k.facts) k.facts.entries
  pub covered : IsTrue (list_all (λ i. nat_le i.at k.facts.floor) k.facts.installs)
  pub horizon : k.facts.horizon ≤ k.facts.floor
  pub bare : IsTrue (head_is_bare k.stage k.facts.entries)

-- what was found in a log: nothing where no record stands, else what its facts leave
abbrev pub IsRebuilt : Setup → List Record → Option Kept → Type 0
IsRebuilt setup log None = log ≡ []
IsRebuilt setup log (Some k) = (k.setup ≡ setup) × (k.facts ≡ facts_of log) × (k.memory ≡ rebuilt (facts_of log))

-- and that is sound
abbrev pub IsSoundlyRebuilt : Setup → Option Kept → Type 0
IsSoundlyRebuilt setup None = Unit {0}
IsSoundlyRebuilt setup (Some k) = ∥ IsSound setup.shard k.facts k.memory ∥₁
