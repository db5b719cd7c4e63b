use Rattle.node.specs.SeenDesk.{seen_desk}
use Rattle.node.proofs.place.Place.restart.Goals as goal

pub returns-in-Ok-open-clause-board : goal.returns-in-Ok-open-clause-board
returns-in-Ok-open-clause-board g c =
    ((seen_desk c.in-Ok-open.desk).core, ((seen_desk c.in-Ok-open.desk).board, c.in-Ok-open.ensures.board, c.in-Ok-open.ensures.viewers))
