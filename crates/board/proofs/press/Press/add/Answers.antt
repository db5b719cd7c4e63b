use Rattle.std.proofs.Common.{◌≡◌, true, ◌∷◌, [], ◌++◌, drop, subst, ap, sym, ◌∙◌, refl, MatchResult}
use mathlib.Core.List.{IsPrefix}
use Rattle.board.specs.Board.{is_board}
use Rattle.board.specs.declared.change.BoardChange.{BoardChange}
use Rattle.board.specs.declared.change.BoardChange.TheVariants.{Prepare}
use Rattle.board.specs.State.{Page, pending_of}
use Rattle.board.specs.Views.{Publishing}
use Rattle.board.proofs.Accepts.{accepted_quiet, accepted_lawful, pending_more}
use Rattle.board.proofs.press.Press.add.Goals as goal
use Rattle.board.proofs.press.Press.add.Goals.{in-Ok, in-Err}

pub invariant_of-self : goal.invariant_of-self
invariant_of-self c =
    let old = c.self.inside.writer in
    let new = c.append.new.self in
    let x : Page = old.desk.shown.value in
    let e = c.args.entry in
    let more = drop old.behind old.log.items in
    let more' = drop new.behind new.log.items in
    let inv = c.self.invariant in
    let same : new.desk.shown.value ≡ x = ap (λ d. d.shown.value) c.append.ensures.desk in
    let asked : is_board (x.list ++ pending_of x more ++ e ∷ []) ≡ true = subst
    (λ (s : Publishing). is_board (s.published ++ s.pending ++ e ∷ []) ≡ true) (sym c.self.view_is) c.requires in (
      accepted_quiet x more more' e c.append.result c.append.ensures.pending inv.0,
      subst (λ (p : Page). IsPrefix p.list p.ahead) (sym same) inv.1,
      subst (λ (p : Page). is_board (p.list ++ pending_of p more') ≡ true) (sym same)
          (accepted_lawful x more more' e c.append.result c.append.ensures.pending inv.2 asked),
    )

pub returns : goal.returns
returns c =
    let old = c.self.inside.writer in
    let new = c.append.new.self in
    let x : Page = old.desk.shown.value in
    let e = c.args.entry in
    let more = drop old.behind old.log.items in
    let more' = drop new.behind new.log.items in
    let same : new.desk.shown.value ≡ x = ap (λ d. d.shown.value) c.append.ensures.desk in
    let Good : Type 0 = more' ≡ more ++ Prepare e ∷ [] in
    let Bad : BoardChange → Type 0 = λ c. (c ≡ Prepare e) × (more' ≡ more) in
    elim c.match-append.branch [
      | in-Ok w ↦
          let good : Good = subst (λ r. MatchResult r (λ _. Good) Bad) w.in-Ok.is c.append.ensures.pending in
          let pending : pending_of new.desk.shown.value more' ≡ pending_of x more ++ e ∷ [] = ap (λ (p : Page). pending_of p more') same
          ∙ pending_more x more more' e good in
          rw (w.result-is, ← c.self.view_is) (λ i. record { board = (same i).board; published = (same i).list; pending = pending i })
      | in-Err w ↦
          let bad = subst (λ r. MatchResult r (λ _. Good) Bad) w.in-Err.is c.append.ensures.pending in
          rw (w.result-is, ← c.self.view_is) (refl, λ i. record { board = (same i).board; published = (same i).list; pending = pending_of (same i) (bad.1 i) })
    ]
