use Rattle.std.proofs.Common.{◌≡◌, ◌∙◌, [], List, Result, Ok, Err, ap, drop, fold, rules, sym}
use Rattle.board.specs.declared.change.BoardChange.{BoardChange}
use Rattle.board.specs.Showing.{ShowingGives}
use Rattle.board.specs.State.{BoardState, Page, after_board_change, board_state}
use Rattle.board.proofs.Steps.{settles_on}
use Rattle.board.proofs.press.settle.Goals as goal

-- where nothing was pending, nothing is, and the list is the same
nothing_new : {A B : Type 0} (x y : Page) (changes changes' : List BoardChange) (result : Result A B) → changes ≡ [] → ShowingGives x y changes changes' result
    → (changes' ≡ []) × (board_state y ≡ board_state x)
nothing_new x y changes changes' (Ok u) none gives = (gives.1, gives.0 ∙ ap (fold after_board_change (board_state x)) none)
nothing_new x y changes changes' (Err u) none gives = (gives.1 ∙ none, ap (λ (p : Page). board_state p) gives.0)

pub step-next-requires : goal.step-next-requires
step-next-requires g c = let w = c.loop.writer in settles_on w.desk.shown.value (drop w.behind w.log.items) c.loop.invariant.2

pub loop-preserved : goal.loop-preserved
loop-preserved g c =
    let w = c.loop.writer in
    let v = c.step-next.result.0 in
    let same = nothing_new w.desk.shown.value v.desk.shown.value (drop w.behind w.log.items) (drop v.behind v.log.items) c.step-next.result.1 c.loop.invariant.2
    c.step-next.ensures.values in (tt, tt, same.0, same.1 ∙ c.loop.invariant.3, search rules)

pub of-requires-clause-same : goal.of-requires-clause-same
of-requires-clause-same g c =
    let w = c.loop.writer in
    let v = c.step-next.result.0 in
    let board = λ (p : Page). p.board in
    let list = λ (p : Page). p.list in
    let same = nothing_new w.desk.shown.value v.desk.shown.value (drop w.behind w.log.items) (drop v.behind v.log.items) c.step-next.result.1 c.loop.invariant.2
    c.step-next.ensures.values in
    let state : board_state v.desk.shown.value ≡ board_state c.args.writer.desk.shown.value = same.1 ∙ c.loop.invariant.3 in (
      c.so_far-other.ensures.1 ∙ ap board c.published-then-is_second-was_second.ensures ∙ ap (λ (s : BoardState). s.2) state
          ∙ sym (c.so_far-one.ensures.1 ∙ ap board c.published-2.ensures),
      c.so_far-other.ensures.0 ∙ ap list c.published-then-is_second-was_second.ensures ∙ ap (λ (s : BoardState). s.0) state
          ∙ sym (c.so_far-one.ensures.0 ∙ ap list c.published-2.ensures),
    )
