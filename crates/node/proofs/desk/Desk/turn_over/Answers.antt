use Rattle.std.proofs.Common.{◌++◌}
use Rattle.shard.specs.Core.{seen}
use Rattle.node.proofs.Turned.{still_in_step}
use Rattle.node.proofs.desk.Desk.turn_over.Goals as goal

pub invariant_of-self : goal.invariant_of-self
invariant_of-self g c =
    let self = c.args.self.now in
    let new = seen c.turn_over-turned.new.self in
    record {
      in_step = still_in_step (seen self.core) new self.handed (self.publisher.published ++ self.publisher.pending) c.turn_over-turned.ensures.turned.facts
          c.turn_over-turned.ensures.turned.memory self.in_step;
      horizon = self.horizon;
    }
