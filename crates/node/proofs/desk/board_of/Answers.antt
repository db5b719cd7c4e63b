use Rattle.std.proofs.Common.{◌≡◌}
use Rattle.board.specs.Board.{first_entries}
use Rattle.node.specs.InStep.{AreOnBoard}
use Rattle.node.proofs.Viewers.{by_both, are_on_board}
use Rattle.node.proofs.desk.board_of.Goals as goal

pub returns-clause-viewers : goal.returns-clause-viewers
returns-clause-viewers g c =
    let entries = first_entries c.args.installs.now c.args.safe c.args.horizon in
    by_both c.start.result (λ r. (r.0.published ≡ entries) × _) _ (λ made. AreOnBoard c.args.n c.args.setup.now made.0 made.1.items)
    (λ made p vs. are_on_board c.args.n c.args.setup.now entries c.in_ok-splits.splits made.0 made.1.items c.in_ok-splits.ensures.same p.0 vs)
    c.start.ensures.publisher c.start.ensures.viewers
