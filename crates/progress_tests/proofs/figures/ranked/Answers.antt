-- The row's numbers are in order where `is_sorted` answers so.
use Rattle.std.proofs.Common.{true}
use Rattle.std.proofs.lemmas.List.Sorted.{non_decreasing_from_is_sorted}
use Rattle.progress_tests.proofs.figures.ranked.Goals as goal

pub percentile-requires-clause-sorted : goal.percentile-requires-clause-sorted
percentile-requires-clause-sorted c =
    non_decreasing_from_is_sorted c.args.row.now.sorted.now true c.if-not-is_sorted.ensures.cases
