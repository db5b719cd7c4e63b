use Rattle.std.proofs.Common.{◌≡◌, ◌≤◌, ◌<◌, ◌-◌, ◌*◌, ℕ, get_or}
use Rattle.frames.specs.Gate.{open_gate}
use Rattle.gatelog.proofs.slots.open_slots.Given as goal

abbrev pub invariant-loop-slot : goal.invariant-loop-slot
invariant-loop-slot l = record {
  within : l.slot ≤ 1024;
  former : (i : ℕ) → i < l.slot → get_or l.fn.bytes (9 * i) 0 ≡ open_gate;
}

abbrev pub decreases-loop-slot : goal.decreases-loop-slot
decreases-loop-slot l = 1024 - l.slot
