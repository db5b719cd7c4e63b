use Rattle.std.proofs.Common.{◌≡◌}
use Rattle.low_tests.proofs.drawers.draw_many.Given as goal

-- the drawer stays one of this source
abbrev pub invariant-loop-draw : goal.invariant-loop-draw
invariant-loop-draw l = l.drawer.source ≡ l.fn.tickets
