use Rattle.std.proofs.Common.{◌≡◌, ◌*◌, ◌++◌, length}
use Rattle.workers.specs.Reports.{IsTally}
use Rattle.workers.proofs.worker.merged.Given as goal

abbrev pub invariant-loop-report : goal.invariant-loop-report
invariant-loop-report l = record {
  whole : l.yielded ++ l.report-iterator.rest.items ≡ l.fn.reports.items;
  tally : IsTally (length l.yielded * l.fn.course.transactions) l.all.counts l.all.lines.items;
}
