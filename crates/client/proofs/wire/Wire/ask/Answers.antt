use Rattle.std.proofs.Common.{List, ◌++◌, ap, ◌∙◌}
use Rattle.message.specs.declared.message.Envelope.{Envelope}
use Rattle.session.specs.Sessions.{closing_messages}
use Rattle.client.specs.Ends.{times}
use Rattle.client.specs.Traffic.{Traffic}
use Rattle.client.proofs.Closings.{again}
use Rattle.client.proofs.wire.Wire.ask.Goals as goal

pub returns-clause-sent : goal.returns-clause-sent
returns-clause-sent g c =
    let tx = c.args.doubt.now.tx in
    let once = c.ask_again.ensures.sent in
    let same = ap (λ (t : Traffic). t.sent) c.attend.ensures in
    again c.args.self.now.sent c.ask_again.new.self.sent c.await_end-done.new.self.sent (closing_messages tx.splits tx.client)
    (once.0, once.1 ∙ ap (λ (l : List Envelope). l ++ times once.0 (closing_messages tx.splits tx.client)) same) c.await_end-done.ensures.sent
