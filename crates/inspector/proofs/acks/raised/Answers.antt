use Rattle.std.proofs.lemmas.List.{at_drop_all}
use Rattle.inspector.specs.Acks.{raised_acks}
use Rattle.inspector.proofs.Steps.{put_all}
use Rattle.inspector.proofs.acks.raised.Goals as goal

pub returns-clause-raised : goal.returns-clause-raised
returns-clause-raised c =
    let acks = c.args.acks.now in
    put_all c.loop-ack.found.items _ (raised_acks 0 acks)
    (at_drop_all (λ l. raised_acks c.loop-ack.top l) acks c.loop-ack.ack-index c.loop-ack-test.false) c.loop-ack.invariant
