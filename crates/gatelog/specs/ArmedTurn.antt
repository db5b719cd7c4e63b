-- What a turnover leaves whose call of some number fails.
use Rattle.std.specs.Prelude.{◌≡◌, ℕ, ◌+◌, ◌||◌, Bool, true, false, nat_le, if◌then◌else◌, List, get_or, Result}
use Rattle.units.specs.declared.fault.Fault.{Fault}
use Rattle.disk.specs.declared.plan.FailurePlan.{FailurePlan}
use Rattle.disk.specs.declared.plan.Fate.{Fate}
use Rattle.disk.specs.declared.plan.Fate.TheVariants.{Old}
use Rattle.disk.specs.File.{File, wrote, tried, with_change, surface, crash_leaves}
use Rattle.disk.specs.Planned.{fails, next, at_write}
use Rattle.record.specs.declared.record.Record.{Record}
use Rattle.frames.specs.Placed.{Placed}
use Rattle.gatelog.specs.Gates.{opens_gate}
use Rattle.frames.specs.Calls.{fails_in_append, appended}
use Rattle.gatelog.specs.Log.{scan}
use Rattle.gatelog.specs.Areas.{area_bytes}
use Rattle.gatelog.specs.Slots.{Beginning, begins_in, slot_at, offset_bytes}

-- one of its five calls fails: the write of the area, or one of the four that put an offset behind a closed gate and open it
abbrev pub fails_in_turnover : FailurePlan → Bool
fails_in_turnover plan = fails (at_write plan) || fails_in_append (next (at_write plan))

-- the file behind a turnover, or behind its call that fails
abbrev pub turned : FailurePlan → ℕ → ℕ → List Record → File → File
turned plan slot gate items file =
    if fails (at_write plan) then with_change (tried (gate + 1) (area_bytes items)) file else appended (next (at_write plan)) (slot_at slot)
    (offset_bytes (gate + 1)) (with_change (wrote (gate + 1) (area_bytes items)) file)

-- a read gives the new area, where this call fails
abbrev pub is_read_turn : ℕ → Bool
is_read_turn call = nat_le 4 call

-- a crash leaves the new area, where this call fails and the oldest change that is not synced has this fate
abbrev pub is_left_turn : ℕ → Fate → Bool
is_left_turn call fate = if nat_le call 2 then false else (if nat_le call 4 then opens_gate fate else true)

-- The log behind a turnover whose call of this number fails (behind a whole one from number 5 on), and where it begins: as it is
-- read, and as a crash leaves it.
pub record IsArmedTurn (call : ℕ) (before after : Result (List Placed × ℕ) Fault) (old new : Beginning) (file : File) : Type 0 where
  pub read : scan (surface file).seen ≡ (if is_read_turn call then after else before)
  pub left : (fates : List Fate) → scan (crash_leaves fates file) ≡ (if is_left_turn call (get_or fates 0 Old) then after else before)
  pub read_begins : begins_in (surface file).seen ≡ (if is_read_turn call then new else old)
  pub left_begins : (fates : List Fate) → begins_in (crash_leaves fates file) ≡ (if is_left_turn call (get_or fates 0 Old) then new else old)
