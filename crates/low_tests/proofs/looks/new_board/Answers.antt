use Rattle.std.proofs.Common.{◌∙◌}
use Rattle.std.proofs.lemmas.Result.{IfOk-weaker}
use Rattle.low_tests.proofs.Boards.{from_none}
use Rattle.low_tests.proofs.looks.new_board.Goals as goal

pub returns-in-Ok : goal.returns-in-Ok
returns-in-Ok g c =
    IfOk-weaker c.start.result _ _
    (λ made is. (is.0 ∙ from_none _ _ c.stamp.ensures c.stamp-in-Ok.ensures, is.1))
    c.start.ensures.publisher
