use Rattle.std.proofs.Common.{◌≡◌, true, sym, ◌∙◌}
use Rattle.std.proofs.lemmas.Bool.{not-false}
use Rattle.units.specs.Keys.{same_key}
use Rattle.units.proofs.KeyLaws.{same_key-is}
use Rattle.lives.proofs.view.is_same.Goals as goal

pub returns : goal.returns
returns c h =
    let one = c.args.one.now in
    let other = c.args.other.now in
    let key : same_key one.key other.key ≡ true = not-false _ (sym c.ne.ensures ∙ c.if-ne.false) in
    let at : one.at ≡ other.at = sym c.micros.ensures.same ∙ c.if-micros.false ∙ c.micros-2.ensures.same in
    λ i. record { key = same_key-is one.key other.key key i; at = at i; value = c.is_same_value.ensures h i }
