-- Which shard is not opened, and why; and what an opening begins with.
use Rattle.std.specs.Prelude.{◌≡◌, ◌⊎◌, ℕ, ◌+◌, List, [], ◌∷◌, ◌++◌, length, map, Some, None, Result, Ok, Err, IsOk, IfSome, IfNone, IsTrue, codes}
use Rattle.std.specs.Fmt.{decimal}
use Rattle.units.specs.Faults.{fault_text}
use Rattle.units.specs.Keys.{Bytes}
use Rattle.units.specs.Lists.{greatest}
use Rattle.units.specs.declared.fault.Fault.{Fault}
use Rattle.units.specs.declared.fault.Fault.TheVariants.{BadRequest, Device, Memory}
use Rattle.units.specs.declared.fault.Reason.TheVariants.{Settings}
use Rattle.units.specs.declared.setup.Setup.{Setup}
use Rattle.disk.specs.File.{File, surface}
use Rattle.record.specs.Records.{epoch_of, floor_of}
use Rattle.record.specs.declared.record.Record.{Record}
use Rattle.shard.specs.Logs.{records_in}
use Rattle.shard.specs.Opened.{IsToldReason, is_reason}
use Rattle.node.specs.Setups.{IsSetupOf}
use Rattle.node.specs.declared.unopened.Unopened.{Unopened}

-- a fault that is of all shards
abbrev pub unopened_for : Fault → Unopened
unopened_for fault = record { shard = None; fault = fault }

-- why no node is over a disk: memory is wanting, its device has failed, or it holds no log of its shard's that may be opened once more
abbrev pub IsUnopened : Fault → Type 0
IsUnopened fault = (fault ≡ Memory) ⊎ ((fault ≡ Device) ⊎ IsTrue (is_reason fault))

-- why there are no nodes: the settings are beyond their limits, or a shard is not opened
abbrev pub IsUnmade : Fault → Type 0
IsUnmade fault = (fault ≡ BadRequest Settings) ⊎ IsUnopened fault

-- how it is printed
abbrev pub unopened_text : Unopened → List ℕ
unopened_text u = elim u.shard [ None ↦ fault_text u.fault | Some n ↦ codes "shard " ++ (decimal n ++ (codes ": " ++ fault_text u.fault)) ]

-- the epoch of the opening that comes next behind what a file holds, and the greatest timestamp there
abbrev pub next_in : Result (List Record) Fault → ℕ
next_in (Ok records) = epoch_of records + 1
next_in (Err fault) = 0

abbrev pub floor_in : Result (List Record) Fault → ℕ
floor_in (Ok records) = floor_of records
floor_in (Err fault) = 0

module _ {D : Type 0} (keeps : Type 0) (file : D → File) where
  -- the run of all ids is the greatest epoch of the openings of some disks: each is one more than that of its log
  abbrev pub IsRunOver : List D → ℕ → Type 0
  IsRunOver disks run = keeps → run ≡ greatest (map (λ disk. next_in (records_in (surface (file disk)).seen)) disks)

  -- the greatest timestamp in the logs of some disks
  abbrev pub IsLastIn : List D → ℕ → Type 0
  IsLastIn disks last = keeps → last ≡ greatest (map (λ disk. floor_in (records_in (surface (file disk)).seen)) disks)

  -- each of some disks holds a log
  abbrev pub HoldLogs : List D → Type 0
  HoldLogs [] = Unit {0}
  HoldLogs (disk ∷ rest) = (keeps → IsOk (records_in (surface (file disk)).seen)) × HoldLogs rest

  -- A shard is the first of some that is refused, for this: the disks before it hold logs, and either memory is wanting, or its device has
  -- failed, or its log is not taken up, for the reason that is due by what it holds.
  pub record IsRefusedFirst (splits : List Bytes) (stride : ℕ) (disks : List D) (number : ℕ) (fault : Fault) : Type 0 where
    pub before : List D
    pub disk : D
    pub behind : List D
    pub whole : disks ≡ before ++ disk ∷ behind
    pub place : length before ≡ number
    pub opened : HoldLogs before
    pub cause : (fault ≡ Memory) ⊎ ((fault ≡ Device) ⊎ ((setup : Setup) × IsSetupOf splits stride number setup
        × IsToldReason keeps setup (surface (file disk)) fault))

  -- why shards are not opened: this shard is refused first, or the settings, or there is no memory
  abbrev pub IsFirst : List Bytes → ℕ → List D → Unopened → Type 0
  IsFirst splits stride disks u =
      IfSome u.shard (λ number. IsRefusedFirst splits stride disks number u.fault)
      × IfNone u.shard ((u.fault ≡ BadRequest Settings) ⊎ (u.fault ≡ Memory))
