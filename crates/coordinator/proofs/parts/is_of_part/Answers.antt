use Rattle.std.proofs.Common.{◌∙◌, ◌&&◌, not, nat_eq, ap, sym}
use Rattle.units.specs.Lists.{has}
use Rattle.units.specs.declared.setup.Setup.{Setup}
use Rattle.coordinator.proofs.Others.{other_part}
use Rattle.coordinator.proofs.parts.is_of_part.Goals as goal

pub returns-then-ne : goal.returns-then-ne
returns-then-ne c =
    let n = c.args.shard in
    let other = ap (λ (s : Setup). not (nat_eq n s.shard)) (sym c.setup.ensures) ∙ sym c.ne.ensures ∙ c.if-ne.true in
    c.has.ensures ∙ ap (λ a. a && has c.args.parts n) (sym other) ∙ sym (other_part c.args.state.now.setup.shard c.args.parts n)

pub returns-else-ne : goal.returns-else-ne
returns-else-ne c =
    let n = c.args.shard in
    let same = ap (λ (s : Setup). not (nat_eq n s.shard)) (sym c.setup.ensures) ∙ sym c.ne.ensures ∙ c.if-ne.false in
    c.if-ne.false ∙ ap (λ a. a && has c.args.parts n) (sym same) ∙ sym (other_part c.args.state.now.setup.shard c.args.parts n)
