use Rattle.std.proofs.Common.{refl}
use Rattle.shard.specs.Core.{begun_of, seen}
use Rattle.node.proofs.Moved.{moved_core, moved_holds, moved_measure}
use Rattle.node.proofs.desk.Desk.move_into.Goals as goal

pub returns-in-Ok-true-clause-moved : goal.returns-in-Ok-true-clause-moved
returns-in-Ok-true-clause-moved g c =
    let old = seen c.args.self.core in
    let new = seen c.move_to-core.result.0 in
    let made = c.in-Ok.ensures in
    let moved = c.move_to-core.ensures in
    record {
      running = made.running.0;
      core = moved_core new old _ _ _ moved.moved made.slot;
      durable = moved_holds g.D.Disk.keeps_model g.D.Disk.file new old _ _ _ moved.moved made.durable;
      book = moved.book;
      board = refl;
      measure = moved_measure new old _ _ _ (begun_of c.move_to-core.result.0) c.begun.result
          c.found-measure.result moved.moved moved.begun c.begun.ensures c.found-measure.ensures;
    }
