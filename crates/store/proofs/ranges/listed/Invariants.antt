use Rattle.std.proofs.Common.{◌≡◌, ◌⊎◌}
use Rattle.store.specs.Views.{IsUnserved}
use Rattle.store.proofs.ranges.listed.Given as goal

abbrev pub invariant-loop-try : goal.invariant-loop-try
invariant-loop-try g l = ((l._try ≡ 0) × (l.viewer ≡ l.fn.viewer)) ⊎ IsUnserved l.fn.viewer l.viewer l.from l.at
