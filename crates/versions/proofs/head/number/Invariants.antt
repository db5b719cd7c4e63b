use Rattle.std.proofs.Common.{◌≡◌, ◌+◌, ◌-◌, ◌*◌, ◌^◌, ◌<◌, drop}
use Rattle.versions.specs.Heads.{number}
use Rattle.versions.proofs.head.number.Given as goal

abbrev pub invariant-loop-i : goal.invariant-loop-i
invariant-loop-i l = record {
  in_range : l.number < 256 ^ l.i;
  so_far : l.number * 256 ^ (8 - l.i) + number (8 - l.i) (drop l.i l.bytes) ≡ number 8 l.bytes;
}
