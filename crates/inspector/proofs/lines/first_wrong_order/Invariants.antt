use Rattle.std.specs.Prelude.{option_map}
use Rattle.std.proofs.Common.{◌≡◌, drop}
use Rattle.units.specs.Lists.{gather, head, numbered}
use Rattle.record.specs.Verdict.{first_wrong_order}
use Rattle.inspector.specs.Faults.{first_late}
use Rattle.inspector.proofs.lines.first_wrong_order.Given as goal

abbrev pub invariant-loop-place : goal.invariant-loop-place
invariant-loop-place l = head (gather (λ q. option_map (λ j. (q.0, j)) (first_late l.history l.lines q.1)) (numbered l.place (drop l.place l.lines))) ≡
    first_wrong_order l.history l.lines
