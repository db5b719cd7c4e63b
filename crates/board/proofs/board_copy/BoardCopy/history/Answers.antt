use Rattle.std.proofs.Common.{◌≡◌, ◌≤◌, true, sym, subst}
use Rattle.board.specs.Board.{is_board, has_safe, safe_on, horizon_on, shown_at}
use Rattle.board.specs.Histories.{IsHistory}
use Rattle.board.specs.State.{Page}
use Rattle.board.proofs.Continuing.{tells}
use Rattle.board.proofs.board_copy.BoardCopy.history.Goals as goal

pub returns-clause-history : goal.returns-clause-history
returns-clause-history c =
    let s = c.self.inside in
    let inv = c.self.invariant in
    let list = s.list.entries in
    let history = c.in_ok-history.history in
    let recent : horizon_on list ≤ c.args.from = subst (λ h. h ≤ c.args.from) inv.5 c.in_ok-may_look.ensures.served.1 in
    let in_time : c.args.to ≤ safe_on list = subst (λ h. c.args.to ≤ h) inv.3 c.in_ok-may_look-2.ensures.served.2 in
    let lawful : is_board s.ahead.entries ≡ true = subst (λ (p : Page). is_board p.ahead ≡ true) (sym c.self.view_is) c.requires.lawful in
    let has : has_safe list ≡ true = subst (λ (p : Page). has_safe p.list ≡ true) (sym c.self.view_is) c.requires.safe in
    subst (λ (p : Page). IsHistory (shown_at p.list c.args.key.now) c.args.key.now c.args.from c.args.to history.versions.items history.next) c.self.view_is
    (tells c.args.home.now list s.ahead.entries s.versions.installs c.args.key.now c.args.from c.args.to history.versions.items history.next inv.2 inv.1
    lawful has recent in_time c.in_ok-history.ensures.history)
