-- When one log keeps what another says, and what is asked of facts that are renewed.
use Rattle.std.specs.List.{AllByRecursion, list_all}
use Rattle.std.specs.Prelude.{◌≡◌, ℕ, ◌≤◌, IsTrue, Bool, nat_eq, nat_lt, [], None, Some}
use Rattle.units.specs.Lists.{ascends, head, when}
use Rattle.units.specs.ById.{IsById}
use Rattle.units.specs.Keys.{Bytes, write_before}
use Rattle.units.specs.Versions.{at_time}
use Rattle.units.specs.declared.setup.Setup.{Setup}
use Rattle.record.specs.Records.{Unrecorded, StandsPrepared, StandsDecided, HasAborted, HasSettled, HasClosed}
use Rattle.record.specs.Accepted.{is_kept, is_timed, keys_belong}
use Rattle.record.specs.Facts.{Facts, TxnStatus}
use Rattle.versions.specs.Places.{SameVersions}
use Rattle.protocol.specs.Sound.{writes_standing}
use Rattle.protocol.specs.Showable.{rises_by_key}

-- Both say the same epoch, floor and horizon, the same id below which all are retired, the same status of every id with its
-- standing record, and the same value of every key at every timestamp from the horizon up.
pub record Keeps (a b : Facts) : Type 0 where
  pub epoch : a.epoch ≡ b.epoch
  pub floor : a.floor ≡ b.floor
  pub horizon : a.horizon ≡ b.horizon
  pub retired : a.retired ≡ b.retired
  pub entries : a.entries ≡ b.entries
  pub values : (k : Bytes) (t : ℕ) → a.horizon ≤ t → at_time a.installs k t ≡ at_time b.installs k t

-- Both keep the same, by versions in place of values: this is what more records leave true.
pub record Alike (a b : Facts) : Type 0 where
  pub epoch : a.epoch ≡ b.epoch
  pub floor : a.floor ≡ b.floor
  pub horizon : a.horizon ≡ b.horizon
  pub retired : a.retired ≡ b.retired
  pub entries : a.entries ≡ b.entries
  pub versions : SameVersions a.horizon a.installs b.installs

-- ---- what is asked of facts that are renewed

-- the entry is recorded under its own id, and its timestamp is not above the floor
abbrev pub IsPlaced : ℕ → TxnStatus → Type 0
IsPlaced floor e =
    elim e.status [
      | Unrecorded ↦ ⊥
      | StandsPrepared p ↦ (p.txn ≡ e.txn) × (p.at ≤ floor)
      | StandsDecided c ↦ (c.txn ≡ e.txn) × (c.at ≤ floor)
      | HasAborted ↦ Unit {0}
      | HasSettled at parts ↦ at ≤ floor
      | HasClosed coordinator None ↦ Unit {0}
      | HasClosed coordinator (Some at) ↦ at ≤ floor
    ]

-- entries by id, each in its place, none retired; versions that rise by key, none above the floor, and the horizon neither
pub record IsRegular (facts : Facts) : Type 0 where
  pub order : IsById (λ e. e.txn) facts.entries
  pub placed : AllByRecursion (IsPlaced facts.floor) facts.entries
  pub rising : IsTrue (rises_by_key [] facts.installs)
  pub covered : AllByRecursion (λ i. i.at ≤ facts.floor) facts.installs
  pub under : facts.horizon ≤ facts.floor
  pub kept : AllByRecursion (λ e. IsTrue (is_kept facts.retired e.txn)) facts.entries

-- the entry is one that a log of this shard has
abbrev pub IsOfShard : ℕ → TxnStatus → Type 0
IsOfShard shard e =
    elim e.status [
      | Unrecorded ↦ ⊥
      | StandsPrepared p ↦ IsTrue (nat_lt 0 p.at) × IsTrue (nat_lt p.coordinator shard)
      | StandsDecided c ↦ IsTrue (nat_lt 0 c.at) × IsTrue (when (nat_eq shard) (head c.parts))
      | HasAborted ↦ Unit {0}
      | HasSettled at parts ↦ IsTrue (nat_lt 0 at) × IsTrue (when (nat_eq shard) (head parts))
      | HasClosed coordinator outcome ↦ IsTrue (is_timed outcome) × IsTrue (nat_lt coordinator shard)
    ]

-- what stands names keys of this shard alone
abbrev pub NamesOwn : Setup → TxnStatus → Type 0
NamesOwn setup e =
    elim e.status [
      | Unrecorded ↦ Unit {0}
      | StandsPrepared p ↦ IsTrue (keys_belong setup p.reads p.writes)
      | StandsDecided c ↦ IsTrue (keys_belong setup c.reads c.writes)
      | HasAborted ↦ Unit {0}
      | HasSettled at parts ↦ Unit {0}
      | HasClosed coordinator outcome ↦ Unit {0}
    ]

-- the writes of what stands ascend by key
abbrev pub writes_ascend : TxnStatus → Bool
writes_ascend e = ascends write_before (writes_standing e.status)

-- what may be renewed, now and behind more records
pub record IsLasting (facts : Facts) : Type 0 where
  pub regular : IsRegular facts
  pub entries : IsTrue (list_all writes_ascend facts.entries)
