use Rattle.std.proofs.Common.{◌≡◌, ◌-◌, ◌∙◌, List, length, Some, sym, ap, subst}
use Rattle.std.specs.Prelude.{slice_get}
use Rattle.units.specs.declared.writes.Install.{Install}
use Rattle.facts.specs.Known.{Known}
use Rattle.facts.specs.Stages.{comes_behind}
use Rattle.facts.proofs.Nexts.{behind_placed}
use Rattle.facts.proofs.facts.Facts.comes_behind.Goals as goal

pub returns-in-Some : goal.returns-in-Some
returns-in-Some c =
    let installs : List Install = c.self.inside.installs.items in
    let placed : slice_get installs (length installs - 1) ≡ Some c.in-Some.last.now =
    subst (λ (l : List Install). slice_get l (length l - 1) ≡ Some c.in-Some.last.now) c.as_slice.ensures.value (sym c.in-Some.ensures.value) in
    c.is_before.ensures ∙ sym (behind_placed installs c.in-Some.last.now c.args.install.now placed)
    ∙ ap (λ (k : Known). comes_behind k.facts.installs c.args.install.now) c.self.view_is
