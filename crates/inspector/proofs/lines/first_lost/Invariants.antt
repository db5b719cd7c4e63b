use Rattle.std.proofs.Common.{◌≡◌, None, drop}
use Rattle.units.specs.Lists.{gather}
use Rattle.record.specs.Verdict.{lost_by}
use Rattle.inspector.specs.Ages.{oldest}
use Rattle.inspector.proofs.lines.first_lost.Given as goal

abbrev pub invariant-loop-line : goal.invariant-loop-line
invariant-loop-line l =
    oldest l.found (gather (lost_by l.retired l.history) (drop l.line-index l.lines)) ≡ oldest None (gather (lost_by l.retired l.history) l.lines)
