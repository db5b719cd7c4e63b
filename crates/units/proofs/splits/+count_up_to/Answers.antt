use Rattle.std.proofs.Common.{◌≡◌, ◌∙◌, true, false, not, sym, arith}
use Rattle.std.proofs.lemmas.Grind.{common_steps}
use Rattle.units.specs.Keys.{key_before}
use Rattle.units.proofs.KeyOrder.{not_before}
use Rattle.units.proofs.splits.+count_up_to.Goals as goal

pub returns-then-ge-clause-value : goal.returns-then-ge-clause-value
returns-then-ge-clause-value t c =
    let k = c.args.key.now in
    let split = c.in-Some.split.now in
    let h : not (key_before k split) ≡ true = sym (not_before k split) ∙ sym c.ge.ensures ∙ c.if-ge.true in
    grind (arith, common_steps)

pub returns-else-ge-clause-value : goal.returns-else-ge-clause-value
returns-else-ge-clause-value t c =
    let k = c.args.key.now in
    let split = c.in-Some.split.now in
    let h : not (key_before k split) ≡ false = sym (not_before k split) ∙ sym c.ge.ensures ∙ c.if-ge.false in
    grind (arith, common_steps)
