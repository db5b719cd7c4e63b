-- What was said so far alone has led the session.
use Rattle.std.proofs.Common.{◌≡◌}
use Rattle.serving.specs.Talks.{IsTalk}
use Rattle.serving.proofs.conversation.talk_in.Given as goal

abbrev pub invariant-loop-line : goal.invariant-loop-line
invariant-loop-line g l = record {
  splits : l.tx.session.splits ≡ l.fn.tx.session.splits;
  talk : IsTalk l.fn.tx.session.splits (g.A.Asks.said l.fn.asks) (g.A.Asks.said l.asks) l.fn.tx.session.client l.tx.session.client;
}
