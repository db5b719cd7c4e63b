use Rattle.std.proofs.Common.{ℕ, List, ◌∙◌, [], sym, subst, arith}
use Rattle.units.specs.declared.writes.Install.{Install}
use Rattle.board.specs.Board.{first_entries, is_board, AreInOrder}
use Rattle.shard.specs.Core.{seen}
use Rattle.shard.specs.Look.{safe_at}
use Rattle.node.proofs.Follow.{entries_follow, opening_is_board}
use Rattle.node.proofs.InStep.{opened_desk, opened_told}
use Rattle.node.proofs.desk.Desk.new.Goals as goal

pub board_of-requires-clause-lawful : goal.board_of-requires-clause-lawful
board_of-requires-clause-lawful g c =
    let core = seen c.args.core in
    (λ i. is_board (first_entries (c.installs.ensures i) (c.safe.ensures i) (c.horizon-told.ensures i)))
    ∙ opening_is_board core.facts.installs (safe_at core) core.facts.horizon (entries_follow [] core.facts.installs c.is_sound.ensures.showable.installs)

pub board_of-requires-clause-order : goal.board_of-requires-clause-order
board_of-requires-clause-order g c =
    let facts = (seen c.args.core).facts in
    let here : AreInOrder facts.installs facts.horizon c.places.result.now = (facts.horizon, omega arith, c.places.ensures) in
    subst (λ (is : List Install). AreInOrder is c.horizon-told.result c.places.result.now) (sym c.installs.ensures)
    (subst (λ (h : ℕ). AreInOrder facts.installs h c.places.result.now) (sym c.horizon-told.ensures) here)

pub invariant_of-result : goal.invariant_of-result
invariant_of-result g c =
    let core = seen c.args.core in
    let p = c.in-Ok.publisher in
    let order = c.is_sound.ensures.showable.installs in
    record {
      in_step = opened_desk core.facts.installs c.installs.result.now c.installs-handed.result.now (safe_at core) c.safe.result core.facts.horizon
          c.horizon-told.result p.published p.pending order c.installs-handed.ensures c.installs.ensures c.safe.ensures c.horizon-told.ensures
          c.in-Ok.ensures.board.0 c.in-Ok.ensures.board.1;
      horizon = opened_told core.facts.installs c.installs.result.now c.installs-handed.result.now (safe_at core) c.safe.result core.facts.horizon
          c.horizon-told.result p.published p.pending order c.installs-handed.ensures c.installs.ensures c.safe.ensures c.horizon-told.ensures
          c.in-Ok.ensures.board.0 c.in-Ok.ensures.board.1;
    }

pub returns-in-Ok-clause-board : goal.returns-in-Ok-clause-board
returns-in-Ok-clause-board g c = (
  c.in-Ok.ensures.board.0 ∙ (λ i. first_entries (c.installs.ensures i) (c.safe.ensures i) (c.horizon-told.ensures i)),
  c.in-Ok.ensures.board.1,
)
