-- What the calls leave that write bytes behind a gate and open it, where a call of the disk is to fail.
use Rattle.std.specs.Prelude.{ℕ, ◌+◌, ◌||◌, Bool, true, false, if◌then◌else◌, List, [], ◌∷◌}
use Rattle.disk.specs.declared.plan.FailurePlan.{FailurePlan}
use Rattle.disk.specs.declared.plan.FailurePlan.TheVariants.{Never, After, AfterWrite}
use Rattle.disk.specs.File.{File, wrote, tried, with_change, synced}
use Rattle.disk.specs.Planned.{fails, next, at_write}
use Rattle.frames.specs.Gate.{open_gate}

-- no call is to fail before the next write
abbrev pub waits : FailurePlan → Bool
waits Never = true
waits (After calls) = false
waits (AfterWrite calls) = true

-- one of a write and the sync behind it fails
abbrev pub fails_in_two : FailurePlan → Bool
fails_in_two plan = fails (at_write plan) || fails (next (at_write plan))

-- the plan behind both
abbrev pub after_two : FailurePlan → FailurePlan
after_two plan = next (next (at_write plan))

-- the file behind the one that fails, or behind both
abbrev pub two_made : FailurePlan → ℕ → List ℕ → File → File
two_made plan at bytes file =
    if fails (at_write plan) then with_change (tried at bytes) file else (if fails (next (at_write plan)) then with_change
    (wrote at bytes) file else synced (with_change (wrote at bytes) file))

-- one of the four calls of an append fails
abbrev pub fails_in_append : FailurePlan → Bool
fails_in_append plan = fails_in_two plan || fails_in_two (after_two plan)

-- the file behind an append of these bytes, or behind its call that fails
abbrev pub appended : FailurePlan → ℕ → List ℕ → File → File
appended plan gate bytes file =
    if fails_in_two plan then two_made plan (gate + 1) bytes file else two_made (after_two plan) gate (open_gate ∷ []) (two_made plan (gate + 1) bytes file)
