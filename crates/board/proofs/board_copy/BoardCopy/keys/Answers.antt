use Rattle.std.proofs.Common.{◌≡◌, ◌≤◌, true, sym, subst}
use Rattle.std.specs.Option.{option_copied}
use Rattle.units.specs.Keys.{Bytes}
use Rattle.std.proofs.Common.{Option}
use Rattle.board.specs.Board.{is_board, has_safe, safe_on, horizon_on}
use Rattle.board.specs.Pages.{IsPage, value_at_home}
use Rattle.board.specs.State.{Page}
use Rattle.board.proofs.Listing.{same_values}
use Rattle.board.proofs.board_copy.BoardCopy.keys.Goals as goal

pub returns-clause-page : goal.returns-clause-page
returns-clause-page c =
    let s = c.self.inside in
    let inv = c.self.invariant in
    let list = s.list.entries in
    let served = c.in_ok-may_look.ensures.served in
    let recent : horizon_on list ≤ c.args.at = subst (λ h. h ≤ c.args.at) inv.5 served.1 in
    let in_time : c.args.at ≤ safe_on list = subst (λ h. c.args.at ≤ h) inv.3 served.2 in
    let lawful : is_board s.ahead.entries ≡ true = subst (λ (p : Page). is_board p.ahead ≡ true) (sym c.self.view_is) c.requires.lawful in
    let has : has_safe list ≡ true = subst (λ (p : Page). has_safe p.list ≡ true) (sym c.self.view_is) c.requires.safe in
    let same = same_values c.args.home.now list s.ahead.entries s.versions.installs c.args.at inv.2 inv.1 lawful has recent in_time in
    let page = c.in_ok-first_page.field-0 in
    subst (λ (p : Page). IsPage (value_at_home c.args.home.now p.list c.args.at) c.args.from.now (option_copied c.args.to) page.keys.items page.next)
    c.self.view_is
    (subst (λ (values : Bytes → Option Bytes). IsPage values c.args.from.now (option_copied c.args.to) page.keys.items page.next) same
    c.in_ok-first_page.ensures)
