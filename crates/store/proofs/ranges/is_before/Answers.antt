use Rattle.std.proofs.Common.{◌∙◌, ap, refl, sym}
use Rattle.std.specs.Option.{option_copied}
use Rattle.units.proofs.KeyOrder.{before_by}
use Rattle.board.specs.Pages.{is_before}
use Rattle.store.proofs.ranges.is_before.Goals as goal

pub returns-in-Some : goal.returns-in-Some
returns-in-Some c =
    c.lt.ensures ∙ before_by c.args.key.now c.in-Some.end.now _ refl ∙ ap (λ o. is_before c.args.key.now (option_copied o)) (sym c.in-Some.is)
