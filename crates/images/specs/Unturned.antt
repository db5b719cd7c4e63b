-- Runs in which no log is turned over: each area is the first of its file, and has all records that were logged.
use Rattle.std.specs.List.{AllByRecursion}
use Rattle.std.specs.Prelude.{ℕ, ◌≡◌, Bool, false, IsFalse, List, ◌++◌, slice_get, Option, Some, option_to_list}
use Rattle.gatelog.specs.Gates.{first_gate}
use Rattle.record.specs.declared.record.Record.{Record}
use Rattle.world.specs.Areas.{MayLeaveArea}
use Rattle.world.specs.World.{Area, ShardNow, area_behind, read_log, run, turns}
use Rattle.world.specs.declared.event.Act.{Act}
use Rattle.world.specs.declared.event.Config.{Config}
use Rattle.world.specs.declared.event.Doing.{Doing}
use Rattle.world.specs.declared.event.Event.{Event}

-- the first area of a file, with these records
abbrev pub first_area : List Record → Area
first_area records = record { begins = first_gate; slot = 0; records = records }

-- a log is turned over in an act
abbrev pub is_turnover : Act → Bool
is_turnover (Act.At n doing) = turns doing
is_turnover (Act.CrashIn n call fate named doing) = turns doing
is_turnover (Act.FailIn n call named doing) = turns doing
is_turnover _ = false

-- what a crash may leave of a shard, and what stands behind a doing that is no turnover: the first area with the records beside it
pub record IsUnturned (s : ShardNow) : Type 0 where
  pub left : (log : List Record) (area : Area) → MayLeaveArea s log area → area ≡ first_area log
  pub behind : (doing : Doing) (logged : Option Record) → IsFalse (turns doing) →
      area_behind s doing logged ≡ first_area (read_log s ++ option_to_list logged)

-- so in a run none of whose events turns a log over
abbrev pub AreasAreLogs : Type 0
AreasAreLogs =
    (config : Config) (es : List Event) → AllByRecursion (λ (e : Event). IsFalse (is_turnover e.act)) es →
    (n : ℕ) (s : ShardNow) → slice_get (run config es).shards n ≡ Some s → IsUnturned s
