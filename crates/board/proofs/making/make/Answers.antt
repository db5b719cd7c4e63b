use Rattle.std.proofs.Common.{ap, map, ◌∙◌}
use Rattle.board.specs.Board.{has_safe, is_board}
use Rattle.board.specs.declared.entry.BoardEntry.TheVariants.{Installed}
use Rattle.board.proofs.Longer.{has_safe-first}
use Rattle.board.specs.State.{board_state}
use Rattle.board.proofs.Steps.{knows_nothing}
use Rattle.board.proofs.making.make.Goals as goal

pub new-requires-2-clause-rule : goal.new-requires-2-clause-rule
new-requires-2-clause-rule g c =
    let is = c.in_ok-first.ensures.first.0 in (
      record {
        list = ap is_board is ∙ c.requires.lawful;
        ahead = ap is_board c.in_ok-first.ensures.first.1 ∙ c.requires.lawful;
        safe = ap has_safe is ∙ has_safe-first (map (λ i. Installed i) c.args.installs.now) c.args.horizon c.args.safe;
      },
      knows_nothing (board_state c.in_ok-first.first),
    )
