use Rattle.std.proofs.Common.{drop, sym, ◌∙◌, subst}
use mathlib.Core.List.{IsPrefix}
use Rattle.board.specs.State.{Page}
use Rattle.board.proofs.Steps.{commits_on}
use Rattle.board.proofs.press.commit.Goals as goal

pub step-next-requires : goal.step-next-requires
step-next-requires g c =
    let w = c.loop.writer in
    let inv = c.loop.invariant in
    commits_on w.desk.shown.value (drop w.behind w.log.items) (inv.3 ∙ c.requires.commit)
    (subst (λ (p : Page). IsPrefix p.list p.ahead) (sym inv.2) c.requires.longer)
