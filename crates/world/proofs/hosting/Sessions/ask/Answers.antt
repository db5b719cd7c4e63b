use Rattle.world.specs.Held.{asks}
use Rattle.world.specs.Hosts.{session_step}
use Rattle.world.specs.World.{client_of}
use Rattle.world.proofs.Replying.{step_comes}
use Rattle.world.proofs.hosting.Sessions.ask.Goals as goal

pub returns : goal.returns
returns c w hosts output =
    step_comes w c.args.output.now c.reply.new.self c.step-moved.new.self output
    (session_step (asks w.config.splits c.args.step.now) (client_of w c.args.txn)) c.step-moved.result c.reply.result
    (c.step-moved.ensures w.config.splits w.clients hosts) c.reply.ensures
