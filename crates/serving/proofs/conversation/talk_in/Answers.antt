use Rattle.std.proofs.Common.{List, subst, ◌∙◌}
use Rattle.units.specs.Keys.{Bytes}
use Rattle.serving.specs.Talks.{IsLine}
use Rattle.serving.proofs.Talking.{as_talk, said_on}
use Rattle.serving.proofs.conversation.talk_in.Goals as goal

pub loop-line-preserved : goal.loop-line-preserved
loop-line-preserved g c =
    let same = c.loop-line.invariant.splits in
    let line =
    subst (λ (splits : List Bytes). IsLine splits (g.A.Asks.said c.loop-line.asks) (g.A.Asks.said c.take_line.new.asks) c.loop-line.tx.session.client
    c.take_line.new.tx.session.client) same c.in-None-take_line.ensures.line in record {
      splits = c.take_line.ensures.splits ∙ same;
      talk =
          said_on c.args.tx.now.session.splits (g.A.Asks.said c.args.asks.now) (g.A.Asks.said c.loop-line.asks) (g.A.Asks.said c.take_line.new.asks)
          c.args.tx.now.session.client c.loop-line.tx.session.client c.take_line.new.tx.session.client c.loop-line.invariant.talk (as_talk _ _ _ _ _ line);
    }
