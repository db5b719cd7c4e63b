use Rattle.std.proofs.Common.{[], inl, sym, ap, subst, Ok, Err}
use Rattle.shard.specs.Core.{seen}
use Rattle.lives.specs.Lives.{LivesAs}
use Rattle.world.specs.declared.event.Doing.{Doing}
use Rattle.lives.specs.Carries.{Comes, IsOpened, OpensDisk, opened_by, opens_as}
use Rattle.lives.specs.declared.life.Life.TheVariants.{Up, Down}
use Rattle.lives.proofs.Opening.{not_opened, opened, with_more}
use Rattle.lives.proofs.Stepping.{armed_from}
use Rattle.lives.proofs.life.open.Goals as goal

pub returns-in-Err : goal.returns-in-Err
returns-in-Err c s h down taken = inl (ap (λ x. Err x) c.in-Err.ensures.memory)

pub returns-in-Ok-open : goal.returns-in-Ok-open
returns-in-Ok-open c =
    subst (λ t. OpensDisk c.args.disk t c.args.call (Up c.arm-in-Ok-open.new.self) (Ok c.none.result)) c.in-Ok.ensures.same
    (λ s h down order.
    subst (λ o. Comes c.args.call Doing.Open (opens_as s) (Ok o)
    (LivesAs c.in-Ok.told (opened_by s c.args.call) (Up c.arm-in-Ok-open.new.self) × IsOpened (Ok o) (Up c.arm-in-Ok-open.new.self))) (sym c.none.ensures)
    (with_more c.args.call Doing.Open (opens_as s) (Ok []) tt
    (opened c.args.disk c.arm.new.self c.args.call (c.arm.ensures.plan tt) c.arm.ensures.same c.in-Ok.told s h down order (seen c.in-Ok-open.core)
    (seen c.arm-in-Ok-open.new.self)
    (armed_from _ _ _ (c.arm-in-Ok-open.ensures.plan tt) c.arm-in-Ok-open.ensures.log c.arm-in-Ok-open.ensures.slot
    c.arm-in-Ok-open.ensures.state c.arm-in-Ok-open.ensures.file.0)
    c.in-Ok-open.ensures.opened)))

pub returns-in-Err-open : goal.returns-in-Err-open
returns-in-Err-open c =
    subst (λ t. OpensDisk c.args.disk t c.args.call (Down c.arm-in-Err-open.new.self) (Err c.in-Err-open.fault)) c.in-Ok.ensures.same
    (λ s h down order.
    with_more c.args.call Doing.Open (opens_as s) (Err c.in-Err-open.fault) tt
    (not_opened c.args.disk c.arm.new.self c.args.call
    (c.arm.ensures.plan tt) c.arm.ensures.same c.in-Ok.told s h down order c.in-Err-open.fault c.in-Err-open.back
    c.arm-in-Err-open.new.self (c.arm-in-Err-open.ensures.plan tt) c.arm-in-Err-open.ensures.same c.in-Err-open.ensures.refused))
