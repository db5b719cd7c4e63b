-- A line for each that was read.
use Rattle.std.proofs.Common.{◌≡◌, map, take, string_bytes, flat_map}
use Rattle.showing.specs.Dumps.{dump_line}
use Rattle.showing.proofs.lines.lines_of.Given as goal

abbrev pub invariant-loop-offset : goal.invariant-loop-offset
invariant-loop-offset l = string_bytes l.text ≡ flat_map dump_line (map (λ t. (t.0, string_bytes t.1)) (take l.offset-index l.told))
