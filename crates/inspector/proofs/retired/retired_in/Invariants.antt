-- The logs that are left, behind the greatest id of those that were read.
use Rattle.std.proofs.Common.{◌≡◌, drop, map}
use Rattle.record.specs.Verdict.{latest_retired, retired_in}
use Rattle.inspector.proofs.retired.retired_in.Given as goal

abbrev pub invariant-loop-log : goal.invariant-loop-log
invariant-loop-log l = latest_retired l.found (map (λ log. log.items) (drop l.log-index l.logs)) ≡ retired_in (map (λ log. log.items) l.logs)
