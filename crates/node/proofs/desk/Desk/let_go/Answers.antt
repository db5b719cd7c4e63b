use Rattle.std.proofs.Common.{◌++◌, length, ap, arith}
use Rattle.shard.specs.Core.{book_of, seen}
use Rattle.node.proofs.Gone.{gone_in_step}
use Rattle.node.proofs.desk.Desk.let_go.Goals as goal

pub invariant_of-self : goal.invariant_of-self
invariant_of-self g c =
    let self = c.args.self.now in
    record {
      in_step = gone_in_step (seen self.core) (seen c.let_go.new.self) (book_of self.core) self.handed (length c.installs-in-Ok.result.now)
          (self.publisher.published ++ self.publisher.pending) c.in-Ok.ensures.core c.is_sound.ensures.lasting
          (omega (arith, self.in_step.count, c.if-self-installs.false, ap length c.installs.ensures)) (ap length c.installs-in-Ok.ensures) self.in_step;
      horizon = self.horizon;
    }
