use Rattle.shard.specs.Core.{book_of, seen}
use Rattle.lives.proofs.Living.{does_input, does_nothing}
use Rattle.lives.proofs.Stepping.{armed_from, takes_input}
use Rattle.lives.proofs.life.do_input.Goals as goal

pub input_of-requires : goal.input_of-requires
input_of-requires c = c.requires

pub returns-in-Ok : goal.returns-in-Ok
returns-in-Ok c =
    does_input (seen c.args.core.now) (seen c.arm-in-Ok.new.self) c.args.bag.now c.args.call c.args.doing.now _ _ c.on-result.result c.requires
    c.in-Ok.ensures.found
    (takes_input (seen c.args.core.now) (seen c.arm.new.self) (seen c.on-result.new.self) (seen c.arm-in-Ok.new.self) c.args.call c.args.doing.now c.requires
    (armed_from _ _ _ (c.arm.ensures.plan tt) c.arm.ensures.log c.arm.ensures.slot c.arm.ensures.state c.arm.ensures.file.0)
    (armed_from _ _ _ (c.arm-in-Ok.ensures.plan tt) c.arm-in-Ok.ensures.log c.arm-in-Ok.ensures.slot c.arm-in-Ok.ensures.state c.arm-in-Ok.ensures.file.0)
    _ _ c.on-result.result (book_of c.arm.new.self) c.on-result.ensures.stepped)

pub returns-in-Err : goal.returns-in-Err
returns-in-Err c = does_nothing (seen c.args.core.now) c.args.bag.now c.args.call c.args.doing.now _ c.requires c.in-Err.ensures.cause
