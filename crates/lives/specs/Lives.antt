-- How a core, or the disk of one that is down, stands for a shard of the definitions.
use Rattle.std.specs.Prelude.{◌≡◌, true, false, List, get_or}
use Rattle.units.specs.declared.setup.Setup.{Setup}
use Rattle.disk.specs.File.{surface, crash_leaves}
use Rattle.disk.specs.declared.plan.FailurePlan.{FailurePlan}
use Rattle.disk.specs.declared.plan.Fate.{Fate}
use Rattle.record.specs.Facts.{facts_of}
use Rattle.record.specs.declared.record.Record.{Record}
use Rattle.gatelog.specs.Crash.{Begins}
use Rattle.protocol.specs.Rows.{Memory}
use Rattle.ledger.specs.Keeps.{Alike}
use Rattle.shard.specs.Core.{seen}
use Rattle.shard.specs.On.{CoreView}
use Rattle.simdisk.specs.State.{disk_file, disk_plan}
use Rattle.simdisk.specs.declared.simdisk.SimDisk.{SimDisk}
use Rattle.world.specs.World.{ShardNow, State, Runs, IsStopped, IsDown, Nothing, crashed, gate_of, left_area, left_log, read_area}
use Rattle.lives.specs.Held.{HoldsArea, beginning_of}
use Rattle.lives.specs.declared.life.Life.{Life}
use Rattle.lives.specs.declared.life.Life.TheVariants.{Up, Down}

-- the records that a read of a shard's disk gives
abbrev pub disk_log : ShardNow → List Record
disk_log s = (read_area s).records

-- a crash by a fate
abbrev pub crash_by : Fate → ShardNow → ShardNow
crash_by fate s = crashed s (left_log fate s) (left_area fate s)

-- A disk that is not to fail, and holds a shard's log: a read gives the area that the definitions read, and a crash leaves, by each
-- choice, the one that they leave by the fate of the oldest change.
pub record HoldsLog (s : ShardNow) (disk : SimDisk) : Type 0 where
  pub never : disk_plan disk ≡ FailurePlan.Never
  pub read : HoldsArea (read_area s) (surface (disk_file disk)).seen
  pub left : (fates : List Fate) → HoldsArea (left_area (get_or fates 0 Fate.Old) s) (crash_leaves fates (disk_file disk))

-- a core whose facts are alike to what a shard's records say, and which keeps this memory, on a disk that holds the log
pub record IsCoreOf (setup : Setup) (s : ShardNow) (m : Memory) (core : CoreView SimDisk) : Type 0 where
  pub setup_is : core.setup ≡ setup
  pub knows : Alike core.facts (facts_of s.log)
  pub memory : core.memory ≡ m
  pub disk : HoldsLog s core.disk

-- it runs, at the log's end, with the next free slot, nothing is unsure, and whatever a crash leaves, the log begins where it does
pub record IsRunningAs (setup : Setup) (s : ShardNow) (m : Memory) (core : CoreView SimDisk) : Type 0 where
  pub core_of : IsCoreOf setup s m core
  pub runs : core.stopped ≡ false
  pub sure : s.unsure ≡ Nothing
  pub gate : core.gate ≡ gate_of (read_area s)
  pub slot : core.slot ≡ (read_area s).slot
  pub begins : Begins (surface (disk_file core.disk)) (beginning_of (read_area s))

-- it was stopped by its device
pub record IsStoppedAs (setup : Setup) (s : ShardNow) (m : Memory) (core : CoreView SimDisk) : Type 0 where
  pub core_of : IsCoreOf setup s m core
  pub stopped : core.stopped ≡ true

-- a core of a shard in this state
abbrev pub IsCoreIn : Setup → ShardNow → CoreView SimDisk → State → Type 0
IsCoreIn setup s core (Runs m) = IsRunningAs setup s m core
IsCoreIn setup s core (IsStopped m) = IsStoppedAs setup s m core
IsCoreIn setup s core IsDown = ⊥

-- the disk of a shard in this state, which is down
abbrev pub IsDiskIn : ShardNow → SimDisk → State → Type 0
IsDiskIn s disk (Runs m) = ⊥
IsDiskIn s disk (IsStopped m) = ⊥
IsDiskIn s disk IsDown = HoldsLog s disk

-- what there is of a shard in this state: its core, or its disk
abbrev pub LivesIn : Setup → ShardNow → Life → State → Type 0
LivesIn setup s (Up core) state = IsCoreIn setup s (seen core) state
LivesIn setup s (Down disk) state = IsDiskIn s disk state

-- what there is of a shard
abbrev pub LivesAs : Setup → ShardNow → Life → Type 0
LivesAs setup s life = LivesIn setup s life s.state
