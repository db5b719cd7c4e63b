use Rattle.client.proofs.Closings.{pressed_on}
use Rattle.client.proofs.wire.Wire.end.Goals as goal

pub returns-in-None : goal.returns-in-None
returns-in-None g c =
    let tx = c.args.tx in
    pressed_on tx.splits tx.client c.quit.result c.args.self.now.sent c.await_end.new.self.sent c.quit.new.self.sent c.args.self.now.heard
    c.await_end.new.self.heard c.quit.new.self.heard c.await_end.ensures.sent c.in-None.ensures.heard c.quit.ensures
