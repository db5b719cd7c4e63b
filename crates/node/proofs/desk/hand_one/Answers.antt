use Rattle.std.proofs.Common.{rules}
use Rattle.std.proofs.Common.{◌≡◌, ◌+◌, ◌++◌, ◌∷◌, [], get_or, ap, sym, ◌∙◌, subst, append_assoc}
use Rattle.units.specs.declared.writes.Install.{Install}
use Rattle.board.specs.declared.entry.BoardEntry.TheVariants.{Installed}
use Rattle.board.specs.Board.{horizon_on}
use Rattle.board.specs.Views.{Publishing}
use Rattle.node.specs.InStep.{InStep}
use Rattle.node.proofs.InStep.{one_handed, one_horizon, one_lawful}
use Rattle.node.proofs.desk.hand_one.Goals as goal

pub install-requires : goal.install-requires
install-requires g c =
    let es = c.args.publisher.now.published ++ c.args.publisher.now.pending in
    let i : Install = c.in_ok-install.install in
    let d : Install = c.index-installs-handed.result in
    let is : get_or c.args.installs.now c.args.handed.now d ≡ i = sym (c.in_ok-install.ensures.same ∙ c.index-installs-handed.is) in
    one_lawful c.args.installs.now c.args.safe c.args.handed.now c.args.horizon es i d c.requires.step c.requires.left is

pub returns-clause-step : goal.returns-clause-step
returns-clause-step g c =
    let installs = c.args.installs.now in
    let old = c.args.publisher.now in
    let es = old.published ++ old.pending in
    let i : Install = c.in_ok-install.install in
    let d : Install = c.index-installs-handed.result in
    let is : get_or installs c.args.handed.now d ≡ i = sym (c.in_ok-install.ensures.same ∙ c.index-installs-handed.is) in
    let new = c.install.new.self in
    let grown : es ++ Installed i ∷ [] ≡ new.published ++ new.pending = append_assoc old.published old.pending (Installed i ∷ []) ∙ sym
    (ap (λ (s : Publishing). s.published ++ s.pending) c.in_ok-install-2.ensures) in
    subst (λ (l : _). InStep installs c.args.safe (c.args.handed.now + 1) c.args.horizon l) grown
    (one_handed installs c.args.safe c.args.handed.now c.args.horizon es i d c.requires.step c.requires.left is)

pub returns-clause-horizon : goal.returns-clause-horizon
returns-clause-horizon g c =
    let installs = c.args.installs.now in
    let old = c.args.publisher.now in
    let es = old.published ++ old.pending in
    let i : Install = c.in_ok-install.install in
    let d : Install = c.index-installs-handed.result in
    let is : get_or installs c.args.handed.now d ≡ i = sym (c.in_ok-install.ensures.same ∙ c.index-installs-handed.is) in
    let new = c.install.new.self in
    let grown : es ++ Installed i ∷ [] ≡ new.published ++ new.pending = append_assoc old.published old.pending (Installed i ∷ []) ∙ sym
    (ap (λ (s : Publishing). s.published ++ s.pending) c.in_ok-install-2.ensures) in
    ap horizon_on (sym grown) ∙ one_horizon installs c.args.safe c.args.handed.now c.args.horizon es i d c.requires.step c.requires.left is

-- refused, the board is told nothing
pub returns-in_err-install-2-clause-step : goal.returns-in_err-install-2-clause-step
returns-in_err-install-2-clause-step g c =
    subst (λ (s : Publishing). InStep c.args.installs.now c.args.safe c.args.handed.now c.args.horizon (s.published ++ s.pending))
    (sym c.in_err-install-2.ensures.1) c.requires.step

pub returns-in_err-install-2-clause-published : goal.returns-in_err-install-2-clause-published
returns-in_err-install-2-clause-published g c =
    (ap (λ (s : Publishing). s.published) c.in_err-install-2.ensures.1, ap (λ (s : Publishing). s.board) c.in_err-install-2.ensures.1)

pub returns-clause-published : goal.returns-clause-published
returns-clause-published g c =
    (ap (λ (s : Publishing). s.published) c.in_ok-install-2.ensures, ap (λ (s : Publishing). s.board) c.in_ok-install-2.ensures)

pub returns-in_err-install-2-clause-horizon : goal.returns-in_err-install-2-clause-horizon
returns-in_err-install-2-clause-horizon g c = ap (λ (s : Publishing). horizon_on (s.published ++ s.pending)) c.in_err-install-2.ensures.1

pub returns-in_err-install-clause-horizon : goal.returns-in_err-install-clause-horizon
returns-in_err-install-clause-horizon g c = search rules
