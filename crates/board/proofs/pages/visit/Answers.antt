use Rattle.board.specs.declared.pages.KeyPage.{KeyPage}
use Rattle.std.proofs.Common.{◌∙◌, sym, ap}
use Rattle.std.specs.Option.{option_copied}
use Rattle.board.specs.Pages.{value_by}
use Rattle.board.proofs.Listing.{steps_to, steps_past, none_of}
use Rattle.board.proofs.pages.visit.Goals.{then-has_value+in_ok-push, else-has_value}
use Rattle.board.proofs.pages.visit.Goals as goal

pub returns : goal.returns
returns c =
    let home = c.args.home.now in
    let installs = c.args.versions.now.installs in
    let to = option_copied c.args.to in
    let keys = c.args.page.now.keys.items in
    elim c.if-has_value.branch [
      | then-has_value+in_ok-push w ↦ steps_to home installs c.args.at to c.in-Some.key c.next_key.result c.args.page.now.next c.cut_off-page.result keys
          c.in-Some.is c.next_key.ensures c.cut_off-page.ensures c.if-has_value.page.keys.items
          (ap (λ (p : KeyPage). p.keys.items) w.page-is ∙ w.in_ok-push.ensures.items) (sym c.has_value.ensures ∙ w.if-has_value.true)
      | else-has_value w ↦ steps_past home installs c.args.at to c.in-Some.key c.next_key.result c.args.page.now.next c.cut_off-page.result keys
          c.in-Some.is c.next_key.ensures c.cut_off-page.ensures c.if-has_value.page.keys.items (ap (λ (p : KeyPage). p.keys.items) w.page-is)
          (none_of (value_by home installs c.args.at c.in-Some.key) (sym c.has_value.ensures ∙ w.if-has_value.false))
    ]
