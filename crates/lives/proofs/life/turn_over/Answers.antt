use Rattle.std.proofs.Common.{Ok, sym, subst}
use Rattle.shard.specs.Core.{seen}
use Rattle.lives.specs.Carries.{TurnsOver}
use Rattle.lives.proofs.Turning.{turns_over_err, turns_over_ok}
use Rattle.lives.proofs.Stepping.{armed_from}
use Rattle.lives.proofs.life.turn_over.Goals as goal

pub returns-in-Ok : goal.returns-in-Ok
returns-in-Ok c =
    subst (λ o. TurnsOver (seen c.args.core.now) (seen c.arm-2.new.self) c.args.call (Ok o)) (sym c.none.ensures)
    (turns_over_ok (seen c.args.core.now) (seen c.arm.new.self) (seen c.turn_over-result.new.self) (seen c.arm-2.new.self) c.args.call
    (armed_from _ _ _ (c.arm.ensures.plan tt) c.arm.ensures.log c.arm.ensures.slot c.arm.ensures.state c.arm.ensures.file.0)
    (armed_from _ _ _ (c.arm-2.ensures.plan tt) c.arm-2.ensures.log c.arm-2.ensures.slot c.arm-2.ensures.state c.arm-2.ensures.file.0)
    c.in-Ok.field-0 c.in-Ok.ensures.turned)

pub returns-in-Err : goal.returns-in-Err
returns-in-Err c =
    turns_over_err (seen c.args.core.now) (seen c.arm.new.self) (seen c.turn_over-result.new.self) (seen c.arm-2.new.self) c.args.call
    (armed_from _ _ _ (c.arm.ensures.plan tt) c.arm.ensures.log c.arm.ensures.slot c.arm.ensures.state c.arm.ensures.file.0)
    (armed_from _ _ _ (c.arm-2.ensures.plan tt) c.arm-2.ensures.log c.arm-2.ensures.slot c.arm-2.ensures.state c.arm-2.ensures.file.0)
    c.in-Err.fault c.in-Err.ensures.turned
