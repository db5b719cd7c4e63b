use Rattle.std.proofs.Common.{rules}
use Rattle.node.proofs.node.Node.restart.Goals as goal

pub returns-in-Ok-clause-board : goal.returns-in-Ok-clause-board
returns-in-Ok-clause-board g c = (c.deref_mut.result.now.setup, search rules, c.in-Ok.ensures.board)
