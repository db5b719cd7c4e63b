use Rattle.std.proofs.Common.{◌≡◌, ◌≤◌, ◌++◌, length, None, Some, vec_capacity}
use Rattle.std.specs.List.{AllZip}
use Rattle.node.proofs.side_by_side.jobs_of.Given as goal

abbrev pub invariant-loop-one : goal.invariant-loop-one
invariant-loop-one g l =
    (l.yielded ++ l.one-iterator.rest.items ≡ l.fn.given.items)
    × (length l.fn.given.items ≤ vec_capacity l.jobs)
    × AllZip (λ one job. (job.todo ≡ Some one) × (job.done ≡ None)) l.yielded l.jobs.items
