use Rattle.std.proofs.Common.{◌≡◌}
use Rattle.board.specs.Views.{new_viewer, AreViewers}
use Rattle.std.specs.Arc.{arc_value}
use Rattle.left_right.specs.Sides.{view}
use Rattle.board.proofs.making.viewers.Given as goal

-- so many viewers, each of which knows of the list that was told
abbrev pub invariant-loop-made : goal.invariant-loop-made
invariant-loop-made l =
    AreViewers l._made (new_viewer l.fn.told.board l.fn.told.list (arc_value l.fn.home)) l.viewers.items
    × (l.writer.desk.shown ≡ l.fn.writer.desk.shown) × (l.writer.log ≡ l.fn.writer.log) × (l.writer.behind ≡ l.fn.writer.behind)
    × (view l.writer.desk.place ≡ view l.fn.writer.desk.place)
