use Rattle.std.specs.Prelude.{option_map}
use Rattle.std.proofs.Common.{◌≡◌, drop, not}
use Rattle.units.specs.Lists.{first, numbered}
use Rattle.record.specs.Verdict.{first_wrong_read, line_reads_right}
use Rattle.inspector.proofs.lines.first_wrong_read.Given as goal

abbrev pub invariant-loop-place : goal.invariant-loop-place
invariant-loop-place l = option_map (λ q. q.0) (first (λ q. not (line_reads_right l.history q.1)) (numbered l.place (drop l.place l.lines))) ≡
    first_wrong_read l.history l.lines
