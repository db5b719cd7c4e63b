use Rattle.std.proofs.Common.{◌≡◌, true, length, ap, ◌∙◌, sym, subst, ◌≤◌}
use Rattle.units.specs.Versions.{at_time}
use Rattle.units.specs.Looks.{value_seen, buffer_filled}
use Rattle.board.specs.Board.{is_board, has_safe, safe_on, horizon_on}
use Rattle.board.specs.Look.{look_answer, look_buffer, is_at_home}
use Rattle.board.specs.State.{Page}
use Rattle.board.proofs.Longer.{same_value, answers_at, fills_at}
use Rattle.board.proofs.board_copy.BoardCopy.look.Goals as goal

pub returns-clause-answer : goal.returns-clause-answer
returns-clause-answer c =
    let s = c.self.inside in
    let inv = c.self.invariant in
    let list = s.list.entries in
    let value = at_time s.versions.installs c.args.key.now c.args.at in
    let served = c.in_ok-may_look.ensures.served in
    let here : is_at_home c.args.home.now c.args.key.now ≡ true = sym c.has.ensures ∙ served.0 in
    let recent : horizon_on list ≤ c.args.at = subst (λ h. h ≤ c.args.at) inv.5 served.1 in
    let in_time : c.args.at ≤ safe_on list = subst (λ h. c.args.at ≤ h) inv.3 served.2 in
    let lawful : is_board s.ahead.entries ≡ true = subst (λ (p : Page). is_board p.ahead ≡ true) (sym c.self.view_is) c.requires.lawful in
    let has : has_safe list ≡ true = subst (λ (p : Page). has_safe p.list ≡ true) (sym c.self.view_is) c.requires.safe in
    let same = same_value list s.ahead.entries s.versions.installs c.args.key.now c.args.at inv.2 inv.1 lawful has recent in_time in
    subst (λ (p : Page). c.show.result ≡ look_answer c.args.home.now p.list c.args.key.now c.args.at (length c.args.buffer.now)) c.self.view_is
    (answers_at c.args.home.now list c.args.key.now c.args.at value here recent in_time same (length c.args.buffer.now) c.show.result
    (c.show.ensures.answer ∙ ap (λ v. value_seen v (length c.args.buffer.now)) c.at.ensures))

pub returns-clause-buffer : goal.returns-clause-buffer
returns-clause-buffer c =
    let s = c.self.inside in
    let inv = c.self.invariant in
    let list = s.list.entries in
    let value = at_time s.versions.installs c.args.key.now c.args.at in
    let served = c.in_ok-may_look.ensures.served in
    let here : is_at_home c.args.home.now c.args.key.now ≡ true = sym c.has.ensures ∙ served.0 in
    let recent : horizon_on list ≤ c.args.at = subst (λ h. h ≤ c.args.at) inv.5 served.1 in
    let in_time : c.args.at ≤ safe_on list = subst (λ h. c.args.at ≤ h) inv.3 served.2 in
    let lawful : is_board s.ahead.entries ≡ true = subst (λ (p : Page). is_board p.ahead ≡ true) (sym c.self.view_is) c.requires.lawful in
    let has : has_safe list ≡ true = subst (λ (p : Page). has_safe p.list ≡ true) (sym c.self.view_is) c.requires.safe in
    let same = same_value list s.ahead.entries s.versions.installs c.args.key.now c.args.at inv.2 inv.1 lawful has recent in_time in
    subst (λ (p : Page). c.show.new.buffer ≡ look_buffer c.args.home.now p.list c.args.key.now c.args.at c.args.buffer.now) c.self.view_is
    (fills_at c.args.home.now list c.args.key.now c.args.at value here recent in_time same c.args.buffer.now c.show.new.buffer
    (c.show.ensures.buffer ∙ ap (λ v. buffer_filled v c.args.buffer.now) c.at.ensures))
