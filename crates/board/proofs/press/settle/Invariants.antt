use Rattle.std.proofs.Common.{◌≡◌, [], drop}
use Rattle.board.specs.State.{board_state}
use Rattle.board.proofs.press.settle.Given as goal

-- nothing is pending, and the list is the one that was shown at first, by the same copy
abbrev pub invariant-loop : goal.invariant-loop
invariant-loop g l =
    (goal.iterator-loop g).can_next l.iterator' × (goal.iterator-loop g).is_finite l.iterator'
    × (drop l.writer.behind l.writer.log.items ≡ [])
    × (board_state l.writer.desk.shown.value ≡ board_state l.fn.writer.desk.shown.value) × (l.writer.desk.shown.value.second ≡ l.was_second)
