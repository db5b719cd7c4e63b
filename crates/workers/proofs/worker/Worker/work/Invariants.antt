use Rattle.workers.specs.Reports.{IsTally}
use Rattle.workers.specs.Turns.{AreTurns}
use Rattle.workers.proofs.worker.Worker.work.Given as goal

abbrev pub invariant-loop-turn : goal.invariant-loop-turn
invariant-loop-turn g l = record {
  tally : IsTally l.turn l.counts l.lines.items;
  turns : AreTurns l.fn.course.keys l.fn.self.number l.turn l.lines.items;
}
