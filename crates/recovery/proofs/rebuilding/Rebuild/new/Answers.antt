use Rattle.std.proofs.Common.{ap, reverse}
use Rattle.recovery.proofs.Progress.{at_none}
use Rattle.recovery.proofs.rebuilding.Rebuild.new.Goals as goal

pub invariant_of-result : goal.invariant_of-result
invariant_of-result c = record { progress = ∣ at_none c.in_ok-copy.field-0 (reverse c.none.result.entries) (ap reverse c.none.ensures) ∣₁ }
