use Rattle.client.proofs.Closings.{given_up}
use Rattle.client.proofs.wire.Wire.give_up.Goals as goal

pub returns-else-is_told-clause-sent : goal.returns-else-is_told-clause-sent
returns-else-is_told-clause-sent g c =
    (c.in-Ok.outbox, c.send_all.ensures.sent, given_up c.args.tx.splits c.args.tx.client _ c.in-Ok.outbox c.in-Ok.ensures)
