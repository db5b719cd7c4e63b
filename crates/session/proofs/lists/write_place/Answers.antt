use Rattle.std.proofs.Common.{◌≡◌, ◌∙◌, true, false, sym, arith}
use Rattle.std.proofs.lemmas.Grind.{common_steps}
use Rattle.std.proofs.lemmas.Bool.{not-true, not-false}
use Rattle.units.specs.Keys.{key_before}
use Rattle.units.proofs.KeyOrder.{not_before}
use Rattle.session.proofs.lists.write_place.Goals as goal

pub returns-then-ge-clause-place : goal.returns-then-ge-clause-place
returns-then-ge-clause-place c =
    let j = c.index-writes-i.result.key in
    let k = c.args.key.now in
    let h : key_before j k ≡ false = not-true (key_before j k) (sym (not_before j k) ∙ sym c.ge.ensures ∙ c.if-ge.true) in
    grind (arith, common_steps)

pub loop-i-preserved : goal.loop-i-preserved
loop-i-preserved c =
    let j = c.index-writes-i.result.key in
    let k = c.args.key.now in
    let h : key_before j k ≡ true = not-false (key_before j k) (sym (not_before j k) ∙ sym c.ge.ensures ∙ c.if-ge.false) in
    grind (arith, common_steps)
