use Rattle.std.proofs.Common.{◌≡◌, drop, Some, None, cond}
use Rattle.units.specs.Lists.{gather, head, numbered}
use Rattle.record.specs.Verdict.{is_late_ack}
use Rattle.inspector.proofs.lines.late_among.Given as goal

abbrev pub invariant-loop-place : goal.invariant-loop-place
invariant-loop-place l = head (gather (λ q. cond (is_late_ack l.moment l.at q.1) (Some (q.0)) None) (numbered l.place (drop l.place l.lines))) ≡ head
    (gather (λ q. cond (is_late_ack l.moment l.at q.1) (Some (q.0)) None) (numbered 0 l.lines))
