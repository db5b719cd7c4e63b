use Rattle.std.proofs.Common.{◌≡◌, ◌≤◌, ◌++◌, List, length, Some, vec_capacity, vec_len}
use Rattle.std.specs.List.{AllZip}
use Rattle.node.proofs.side_by_side.results_of.Given as goal

abbrev pub invariant-loop-jobs : goal.invariant-loop-jobs
invariant-loop-jobs g l = record {
  room : length l.fn.jobs.items ≤ vec_capacity l.results;
  done : (done : List _) × (done ++ l.jobs.items ≡ l.fn.jobs.items)
      × AllZip (λ job result. job.done ≡ Some result) done l.results.items;
}

abbrev pub decreases-loop-jobs : goal.decreases-loop-jobs
decreases-loop-jobs g l = vec_len l.jobs
