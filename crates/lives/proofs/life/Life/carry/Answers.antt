use Rattle.std.proofs.Common.{Err, sym, ◌∙◌, subst}
use Rattle.units.specs.declared.fault.Fault.TheVariants.{Stopped}
use Rattle.shard.specs.Core.{seen}
use Rattle.lives.specs.Carries.{Carries}
use Rattle.lives.specs.Inputs.{goes_on}
use Rattle.lives.specs.Lives.{LivesAs}
use Rattle.lives.specs.declared.life.Life.TheVariants.{Up}
use Rattle.lives.proofs.Living.{core_carries, does_turn, down_carries, goes_so, input_so, open_carries, up_carries}
use Rattle.lives.proofs.life.Life.carry.Goals as goal

pub returns-then-is_up : goal.returns-then-is_up
returns-then-is_up c s h =
    up_carries c.args.setup.now c.args.bag.now s c.args.call c.args.doing.now (sym c.opens.ensures ∙ c.if-opens.true) c.args.self.now
    (sym (c.is_up.ensures c.args.setup.now s h) ∙ c.if-is_up.true) h

pub returns-then-opens : goal.returns-then-opens
returns-then-opens c s h =
    subst (λ l. Carries c.args.setup.now c.args.bag.now s c.args.call c.args.doing.now c.args.self.now l c.open-life.result.1)
    (sym c.replace-then-opens.ensures.after)
    (open_carries c.args.setup.now c.args.bag.now s c.args.call c.args.doing.now (sym c.opens.ensures ∙ c.if-opens.true) c.into_disk-disk.result
    c.args.self.now c.open-life.result.0 c.open-life.result.1 (sym (c.is_up.ensures c.args.setup.now s h) ∙ c.if-is_up.false)
    (c.into_disk-disk.ensures c.args.setup.now s (subst (LivesAs c.args.setup.now s) (sym c.replace.ensures.value) h)) c.open-life.ensures)

pub do_input-requires : goal.do_input-requires
do_input-requires c =
    input_so c.args.doing.now (goes_so (goes_on c.args.doing.now) (sym c.opens.ensures ∙ c.if-opens.false)) (sym c.turns.ensures ∙ c.if-turns.false)

pub returns-then-turns : goal.returns-then-turns
returns-then-turns c s h =
    subst (λ l. Carries c.args.setup.now c.args.bag.now s c.args.call c.args.doing.now l (Up c.turn_over.new.core) c.turn_over.result) (sym c.in-Up.is)
    (core_carries c.args.setup.now c.args.bag.now s c.args.call c.args.doing.now (seen c.turn_over.new.core) (seen c.in-Up.core)
    (Up c.in-Up.core) (Up c.turn_over.new.core) (λ t state k. k) c.turn_over.result (λ k. k)
    (goes_so (goes_on c.args.doing.now) (sym c.opens.ensures ∙ c.if-opens.false))
    (subst (LivesAs c.args.setup.now s) c.in-Up.is h)
    (does_turn (seen c.in-Up.core) (seen c.turn_over.new.core) c.args.bag.now c.args.call c.args.doing.now c.turn_over.result
    (sym c.turns.ensures ∙ c.if-turns.true) c.turn_over.ensures))

pub returns-else-turns : goal.returns-else-turns
returns-else-turns c s h =
    subst (λ l. Carries c.args.setup.now c.args.bag.now s c.args.call c.args.doing.now l (Up c.do_input.new.core) c.do_input.result) (sym c.in-Up.is)
    (core_carries c.args.setup.now c.args.bag.now s c.args.call c.args.doing.now (seen c.do_input.new.core) (seen c.in-Up.core)
    (Up c.in-Up.core) (Up c.do_input.new.core) (λ t state k. k) c.do_input.result (λ k. k)
    (goes_so (goes_on c.args.doing.now) (sym c.opens.ensures ∙ c.if-opens.false))
    (subst (LivesAs c.args.setup.now s) c.in-Up.is h) c.do_input.ensures)

pub returns-in-Down : goal.returns-in-Down
returns-in-Down c s h =
    subst (λ l. Carries c.args.setup.now c.args.bag.now s c.args.call c.args.doing.now l l (Err Stopped)) (sym c.in-Down.is)
    (down_carries c.args.setup.now c.args.bag.now s c.args.call c.args.doing.now c.in-Down.field-0
    (goes_so (goes_on c.args.doing.now) (sym c.opens.ensures ∙ c.if-opens.false)) (subst (LivesAs c.args.setup.now s) c.in-Down.is h))
