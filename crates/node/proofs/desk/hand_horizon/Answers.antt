use Rattle.std.proofs.Common.{◌≡◌, ◌++◌, ◌∷◌, [], ap, sym, ◌∙◌, subst, append_assoc}
use Rattle.board.specs.declared.entry.BoardEntry.TheVariants.{Horizon}
use Rattle.board.specs.Board.{horizon_on}
use Rattle.board.specs.Views.{Publishing}
use Rattle.node.specs.InStep.{InStep}
use Rattle.node.proofs.InStep.{horizon_lawful, horizon_handed, horizon_raised}
use Rattle.node.proofs.desk.hand_horizon.Goals as goal

pub horizon-requires : goal.horizon-requires
horizon-requires g c =
    let es = c.args.publisher.now.published ++ c.args.publisher.now.pending in
    horizon_lawful c.args.installs.now c.args.safe c.args.handed c.args.horizon es c.requires.step c.requires.all

pub returns-clause-step : goal.returns-clause-step
returns-clause-step g c =
    let old = c.args.publisher.now in
    let es = old.published ++ old.pending in
    let new = c.horizon.new.self in
    let grown : es ++ Horizon c.args.horizon ∷ [] ≡ new.published ++ new.pending = append_assoc old.published old.pending (Horizon c.args.horizon ∷ [])
    ∙ sym (ap (λ (s : Publishing). s.published ++ s.pending) c.in_ok-horizon.ensures) in
    subst (λ (l : _). InStep c.args.installs.now c.args.safe c.args.handed c.args.horizon l) grown
    (horizon_handed c.args.installs.now c.args.safe c.args.handed c.args.horizon es c.requires.step c.requires.all)

pub returns-clause-told : goal.returns-clause-told
returns-clause-told g c =
    let old = c.args.publisher.now in
    let es = old.published ++ old.pending in
    let new = c.horizon.new.self in
    let grown : es ++ Horizon c.args.horizon ∷ [] ≡ new.published ++ new.pending = append_assoc old.published old.pending (Horizon c.args.horizon ∷ [])
    ∙ sym (ap (λ (s : Publishing). s.published ++ s.pending) c.in_ok-horizon.ensures) in
    ap horizon_on (sym grown) ∙ horizon_raised c.args.installs.now c.args.safe c.args.handed c.args.horizon es c.requires.step c.requires.all
