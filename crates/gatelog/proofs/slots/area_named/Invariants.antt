use Rattle.std.proofs.Common.{◌≡◌, ◌⊎◌, ◌≤◌, ◌<◌, ◌+◌, ◌-◌, ◌*◌, ◌++◌, List, ℕ, length, false}
use Rattle.gatelog.specs.Gates.{first_gate}
use Rattle.gatelog.specs.Slots.{slot_count, named}
use Rattle.gatelog.proofs.slots.area_named.Given as goal

abbrev pub invariant-loop-left : goal.invariant-loop-left
invariant-loop-left l = record {
  few : l.left ≤ 1024;
  size : (9224 - 9 * l.left) + length l.rest ≡ 8 + length l.fn.bytes;
  above : (l.area ≡ first_gate) ⊎ ((first_gate < l.area) × (l.area < l.fn.len));
  says : (beyond : List ℕ) → 8 + length l.fn.bytes + length beyond ≡ l.fn.len →
      named l.left (9224 - 9 * l.left) l.area l.shut l.fn.len (l.rest ++ beyond) ≡ named slot_count 8 first_gate false l.fn.len (l.fn.bytes ++ beyond);
}

abbrev pub decreases-loop-left : goal.decreases-loop-left
decreases-loop-left l = l.left
