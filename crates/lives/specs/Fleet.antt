-- How the shards of a run in the code stand for those of the definitions.
use Rattle.std.specs.Prelude.{ℕ, suc, ◌≡◌, ◌⊎◌, not, nat_lt, List, [], ◌∷◌, length, replicate, slice_get, Option, Some, None, Result, Ok, Err}
use Rattle.units.specs.Keys.{Bytes}
use Rattle.units.specs.Lists.{replaced, when}
use Rattle.units.specs.declared.fault.Fault.{Fault}
use Rattle.units.specs.declared.fault.Fault.TheVariants.{Memory, Stranger}
use Rattle.disk.specs.File.{surface}
use Rattle.disk.specs.declared.plan.Fate.{Fate as Left}
use Rattle.record.specs.declared.record.Record.{Record}
use Rattle.message.specs.declared.message.Envelope.{Envelope}
use Rattle.shard.specs.Logs.{KeepsRecords, records_in}
use Rattle.simdisk.specs.State.{disk_file}
use Rattle.simdisk.specs.declared.simdisk.SimDisk.{SimDisk}
use Rattle.world.specs.World.{ShardNow, effect, fresh_shard, setup_of}
use Rattle.world.specs.Lawful.{is_down, is_up}
use Rattle.world.specs.declared.event.Act.{Act}
use Rattle.world.specs.declared.event.Config.{Config}
use Rattle.world.specs.declared.event.Doing.{Doing}
use Rattle.world.specs.declared.event.Reply.{Reply}
use Rattle.lives.specs.Carries.{IsOrderly, answer_of}
use Rattle.lives.specs.Shows.{StandsFor, crashed_within, done_by, look_by}
use Rattle.lives.specs.declared.fleet.Known.{Known}
use Rattle.lives.specs.declared.fleet.Shards.{Shards}
use Rattle.lives.specs.declared.run_shard.RunShard.{RunShard}

-- one by one, from one number on
abbrev pub AreStanding : Config → ℕ → List RunShard → List ShardNow → Type 0
AreStanding config n [] [] = Unit {0}
AreStanding config n (r ∷ rs) (s ∷ ss) = StandsFor (setup_of config n) r s × AreStanding config (suc n) rs ss
AreStanding config n _ _ = ⊥

-- the shards of a run
pub record AreShards (config : Config) (shards : Shards) (ss : List ShardNow) : Type 0 where
  pub splits_are : shards.splits.now ≡ config.splits
  pub standing : AreStanding config 0 shards.shards.items ss

-- before the first event
abbrev pub are_fresh : Config → List ShardNow
are_fresh config = replicate (suc (length config.splits)) fresh_shard

-- what a doing at a shard, where it exists, answers, and the shards after it
abbrev pub shards_by : Config → List Envelope → List ShardNow → ℕ → Option ℕ → Doing → Result (List Envelope) Fault × List ShardNow
shards_by config bag ss n call doing =
    elim (slice_get ss n) [
      | None ↦ (Err Stranger, ss)
      | Some s ↦
          (answer_of call doing (effect (setup_of config n) bag s doing), replaced ss n (done_by s call doing (effect (setup_of config n) bag s doing)))
    ]

-- its shard takes its log, and what the doing logs follows
abbrev pub IsOrderlyAt : Config → List Envelope → List ShardNow → ℕ → Doing → Type 0
IsOrderlyAt config bag ss n doing = (s : ShardNow) → slice_get ss n ≡ Some s → IsOrderly (setup_of config n) s (effect (setup_of config n) bag s doing)

-- that is answered, and the shards are these; or memory was refused
abbrev pub ActsAt : Config → List Envelope → List ShardNow → ℕ → Option ℕ → Doing → Shards → Result (List Envelope) Fault → Type 0
ActsAt config bag ss n call doing new result =
    IsOrderlyAt config bag ss n doing
    → (result ≡ Err Memory) ⊎ ((result ≡ (shards_by config bag ss n call doing).0) × AreShards config new (shards_by config bag ss n call doing).1)

-- another in the place of a shard, where it exists
abbrev pub changed_at : (ShardNow → ShardNow) → List ShardNow → ℕ → List ShardNow
changed_at f ss n = elim (slice_get ss n) [ None ↦ ss | Some s ↦ replaced ss n (f s) ]

-- a shard crashes, where it exists, and is then this; or memory was refused
abbrev pub CrashesAt : Config → (ShardNow → ShardNow) → List ShardNow → ℕ → Shards → Result Reply Fault → Type 0
CrashesAt config f ss n new (Ok reply) =
    (reply ≡ elim (slice_get ss n) [ None ↦ Reply.Refused Stranger | Some s ↦ Reply.Crashed ]) × AreShards config new (changed_at f ss n)
CrashesAt config f ss n new (Err fault) = fault ≡ Memory

-- a crash in a call of a doing, or in none
abbrev pub crash_within : Config → List Envelope → ℕ → Option (ℕ × Doing) → Left → ShardNow → ShardNow
crash_within config bag n within fate s = crashed_within (setup_of config n) bag within fate s

-- the reply to a look at a view of a shard, or at what it shows now, where it exists
abbrev pub looked : Config → List ShardNow → ℕ → Option ℕ → Bytes → ℕ → Reply
looked config ss n view k at = elim (slice_get ss n) [ None ↦ Reply.Refused Stranger | Some s ↦ look_by (setup_of config n) s view k at ]

-- what is known of a shard: it exists or not, it does not run, it is not down, and it has made so many views
abbrev pub known_of : List ShardNow → ℕ → Known
known_of ss n = record {
  exists = nat_lt n (length ss);
  rests = when (λ s. not (is_up s.state)) (slice_get ss n);
  stands = when (λ s. not (is_down s.state)) (slice_get ss n);
  views = elim (slice_get ss n) [ None ↦ 0 | Some s ↦ length s.views ];
}

-- the shard of an act
abbrev pub act_shard : Act → Option ℕ
act_shard (Act.At n doing) = Some n
act_shard (Act.Look n k at) = Some n
act_shard (Act.View n v k at) = Some n
act_shard (Act.Crash n) = Some n
act_shard (Act.CrashIn n call fate named doing) = Some n
act_shard (Act.FailIn n call named doing) = Some n
act_shard _ = None

-- ---- what is left of them

-- the disk holds the log: every image that a crash now may leave has it, and so has what a read gives
abbrev pub IsOn : SimDisk → List Record → Type 0
IsOn disk log = KeepsRecords (surface (disk_file disk)) (Ok log) × (records_in (surface (disk_file disk)).seen ≡ Ok log)

-- so of each disk
abbrev pub AreOn : List SimDisk → List (List Record) → Type 0
AreOn [] [] = Unit {0}
AreOn (disk ∷ disks) (log ∷ logs) = IsOn disk log × AreOn disks logs
AreOn _ _ = ⊥
