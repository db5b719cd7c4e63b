use Rattle.board.proofs.Steps.{goes_on}
use Rattle.board.proofs.press.step.Goals as goal

pub publish_as-requires : goal.publish_as-requires
publish_as-requires g c next is =
    let may = c.requires next is in goes_on _ _ c.args.writer.desk.shown.value next may.0 may.1
