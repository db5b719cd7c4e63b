use Rattle.std.proofs.Common.{◌≡◌, ◌⊎◌}
use Rattle.store.specs.Histories.{IsEarly}
use Rattle.store.proofs.histories.told.Given as goal

abbrev pub invariant-loop-try : goal.invariant-loop-try
invariant-loop-try g l = ((l._try ≡ 0) × (l.viewer ≡ l.fn.viewer)) ⊎ IsEarly l.fn.viewer l.viewer l.key l.from l.to
