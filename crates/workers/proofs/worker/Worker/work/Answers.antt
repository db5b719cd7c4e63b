use Rattle.std.proofs.Common.{◌∙◌}
use Rattle.workers.specs.Keys.{turn_keys}
use Rattle.workers.specs.Turns.{IsTurn}
use Rattle.workers.proofs.Turns.{next_tally, next_turns, some_keys}
use Rattle.workers.proofs.worker.Worker.work.Goals as goal

pub loop-turn-preserved : goal.loop-turn-preserved
loop-turn-preserved g c =
    let turn = c.loop-turn.turn in
    let was = c.loop-turn in
    let keys = turn_keys c.args.course.keys c.args.self.now.number turn in
    let own = c.in_ok-ended.ensures in
    let one : IsTurn keys c.in_ok-ended.ended c.in_ok-ended.looked own.0 =
    rw (← (c.deref.ensures.value ∙ c.in_ok-keys.ensures.keys)) own.1 in
    record {
      tally = next_tally turn was.counts c.add.new.self keys was.lines.items own.0 c.turn-turned.new.lines.items c.in_ok-ended.ended
          c.in_ok-ended.looked (some_keys c.args.course.keys c.args.self.now.number turn) was.invariant.tally one own.2 c.add.ensures.tried
          c.add.ensures.committed c.add.ensures.looks;
      turns = next_turns c.args.course.keys c.args.self.now.number turn was.lines.items own.0 c.turn-turned.new.lines.items c.in_ok-ended.ended
          c.in_ok-ended.looked was.invariant.turns one own.2;
    }
