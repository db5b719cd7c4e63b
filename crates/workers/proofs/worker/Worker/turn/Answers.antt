use Rattle.std.proofs.Common.{◌++◌, refl}
use Rattle.client.proofs.Steps.{longer}
use Rattle.workers.proofs.worker.Worker.turn.Goals as goal

-- the lines of the transaction, and behind them those of the look
pub returns-then-looked : goal.returns-then-looked
returns-then-looked g c =
    let one = c.in_ok-ended.ensures in
    let two = c.in_ok-looked.ensures in (
      one.0 ++ two.0,
      record { transaction = one.0; look = two.0; whole = refl; transacted = one.1; looked = two.1 },
      longer c.args.lines.now.items c.transact.new.lines.items c.look_at_first.new.lines.items one.0 two.0 one.2 two.2,
    )

pub returns-else-looked : goal.returns-else-looked
returns-else-looked g c =
    let one = c.in_ok-ended.ensures in
    let two = c.in_ok-looked.ensures in (
      one.0 ++ two.0,
      record { transaction = one.0; look = two.0; whole = refl; transacted = one.1; looked = two.1 },
      longer c.args.lines.now.items c.transact.new.lines.items c.look_at_first.new.lines.items one.0 two.0 one.2 two.2,
    )
