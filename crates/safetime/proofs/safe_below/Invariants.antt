use Rattle.std.proofs.Common.{◌≡◌, drop}
use Rattle.safetime.specs.Safe.{safe_of}
use Rattle.safetime.proofs.safe_below.Given as goal

abbrev pub invariant-loop-at : goal.invariant-loop-at
invariant-loop-at l = safe_of (record { last = l.safe; holds = drop l.at-index l.holds }) ≡ safe_of (record { last = l.fn.last; holds = l.holds })
