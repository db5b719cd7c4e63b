use Rattle.std.proofs.Common.{drop}
use Rattle.board.proofs.Steps.{settles_on}
use Rattle.board.proofs.press.begin.Goals as goal

pub step-requires : goal.step-requires
step-requires g c = let w = c.args.writer in settles_on w.desk.shown.value (drop w.behind w.log.items) c.requires.none
