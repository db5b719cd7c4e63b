use Rattle.std.proofs.Common.{◌≡◌, [], ◌∷◌, ap, sym, ◌∙◌, subst, unwrap_or, option_map, refl, ◌≤◌}
use Rattle.std.specs.Arc.{arc_value}
use Rattle.board.specs.declared.home.Home.{Home}
use Rattle.board.specs.Board.{safe_on}
use Rattle.board.specs.Histories.{TellsHistory, ToldBy}
use Rattle.left_right.specs.Sides.{view}
use mathlib.Core.List.{IsPrefix}
use Rattle.board.specs.State.{Page, board_state}
use Rattle.board.specs.Views.{Viewing, newest_of, ahead_of}
use Rattle.board.proofs.Steps.{stays_so, followed}
use Rattle.board.proofs.Continuing.{told_by, told_late}
use Rattle.board.proofs.viewer.Viewer.history.Goals as goal

pub enter_as-requires : goal.enter_as-requires
enter_as-requires c x = stays_so _ _ x

pub begins_with-requires-clause-board : goal.begins_with-requires-clause-board
begins_with-requires-clause-board c =
    let page : Page = c.in-Ok.reading.part.value in
    let known = ap (λ o. unwrap_or (option_map (λ r. view r.place) o) []) (sym c.unwrap-reader.ensures ∙ c.take.ensures.value) ∙ c.self.invariant.1 in
    let follows = followed (board_state page) _ (view c.unwrap-reader.result.place) known c.in-Ok.ensures.1.0 in
    follows.1 ∙ ap (λ (p : Page). p.board) (sym c.get-shown.ensures)

pub invariant_of-self : goal.invariant_of-self
invariant_of-self c =
    let page : Page = c.in-Ok.reading.part.value in
    let known = ap (λ o. unwrap_or (option_map (λ r. view r.place) o) []) (sym c.unwrap-reader.ensures ∙ c.take.ensures.value) ∙ c.self.invariant.1 in
    let follows = followed (board_state page) _ (view c.unwrap-reader.result.place) known c.in-Ok.ensures.1.0 in
    let at : view c.leave.result.place ≡ board_state page ∷ [] = c.leave.ensures.1 ∙ c.in-Ok.ensures.1.1 in
    let mine : board_state page ∷ [] ≡ (
      newest_of (view c.leave.result.place),
      ahead_of (view c.leave.result.place),
      c.self.inside.first.names,
    ) ∷ [] = λ i. (newest_of (sym at i), ahead_of (sym at i), sym follows.1 i) ∷ [] in
    (refl, at ∙ mine, c.self.invariant.2, c.self.invariant.3, c.self.invariant.4, c.self.invariant.5)

pub returns-in-Ok-clause-answer : goal.returns-in-Ok-clause-answer
returns-in-Ok-clause-answer c never =
    let page : Page = c.in-Ok.reading.part.value in
    let inside = c.self.inside in
    let known = ap (λ o. unwrap_or (option_map (λ r. view r.place) o) []) (sym c.unwrap-reader.ensures ∙ c.take.ensures.value) ∙ c.self.invariant.1 in
    let sees = c.in-Ok.ensures.1 in
    let follows = followed (board_state page) _ (view c.unwrap-reader.result.place) known sees.0 in
    let told : IsPrefix inside.first.entries page.list = subst (λ (p : Page). IsPrefix inside.first.entries p.list) c.get-shown.ensures c.begins_with.ensures in
    let after : Viewing = record {
      board = inside.first.names;
      seen = newest_of
          (view c.leave.result.place);
      told = inside.first.entries;
      home = arc_value inside.home;
    } in
    let made : TellsHistory c.deref.result.now c.get-shown.result.now.list c.args.key.now c.args.from c.args.to c.history-history.result = record {
      history = c.history-history.ensures.history;
      served = c.history-history.ensures.served;
      refused = c.history-history.ensures.refused;
    } in
    let by_page = subst (λ (p : Page). TellsHistory c.deref.result.now p.list c.args.key.now c.args.from c.args.to c.history-history.result)
    c.get-shown.ensures made in
    let by_home = subst (λ (h : Home). TellsHistory h page.list c.args.key.now c.args.from c.args.to c.history-history.result) c.deref.ensures by_page in
    subst (λ (v : Viewing). ToldBy v c.args.key.now c.args.from c.args.to c.history-history.result after) c.self.view_is (
    told_by _ page c.args.key.now c.args.from c.args.to c.history-history.result (view c.leave.result.place) (c.leave.ensures.1 ∙ sees.1) follows.0 told sees.2
    by_home)

pub returns-in-Ok-clause-told : goal.returns-in-Ok-clause-told
returns-in-Ok-clause-told c in_time late =
    let page : Page = c.in-Ok.reading.part.value in
    let inside = c.self.inside in
    let told : IsPrefix inside.first.entries page.list = subst (λ (p : Page). IsPrefix inside.first.entries p.list) c.get-shown.ensures c.begins_with.ensures in
    let before : Viewing = record {
      board = inside.first.names;
      seen = newest_of
          (unwrap_or (option_map (λ r. view r.place) inside.reader) []);
      told = inside.first.entries;
      home = arc_value inside.home;
    } in
    let made : TellsHistory c.deref.result.now c.get-shown.result.now.list c.args.key.now c.args.from c.args.to c.history-history.result = record {
      history = c.history-history.ensures.history;
      served = c.history-history.ensures.served;
      refused = c.history-history.ensures.refused;
    } in
    let by_page = subst (λ (p : Page). TellsHistory c.deref.result.now p.list c.args.key.now c.args.from c.args.to c.history-history.result)
    c.get-shown.ensures made in
    let by_home = subst (λ (h : Home). TellsHistory h page.list c.args.key.now c.args.from c.args.to c.history-history.result) c.deref.ensures by_page in
    told_late before page c.args.key.now c.args.from c.args.to c.history-history.result told c.in-Ok.ensures.1.2.list by_home
    (subst (λ (v : Viewing). (c.args.from ≤ safe_on v.told) × (c.args.to ≤ safe_on v.told)) (sym c.self.view_is) in_time) late
