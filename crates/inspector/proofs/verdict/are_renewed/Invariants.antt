-- The logs that were read have no base.
use Rattle.std.proofs.Common.{◌≡◌, drop, map}
use Rattle.record.specs.Verdict.{are_renewed}
use Rattle.inspector.proofs.verdict.are_renewed.Given as goal

abbrev pub invariant-loop-log : goal.invariant-loop-log
invariant-loop-log l = are_renewed (map (λ log. log.items) (drop l.log-index l.logs)) ≡ are_renewed (map (λ log. log.items) l.logs)
