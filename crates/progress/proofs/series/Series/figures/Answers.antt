-- The figures are of the numbers in order, so of those that were kept.
use Rattle.std.proofs.Common.{subst}
use Rattle.std.proofs.lemmas.List.Sorted.{IsNonDecreasingBy-from_sort}
use Rattle.progress.specs.Tally.{AreFiguresOf, Taken}
use Rattle.progress.proofs.Percentiles.{figures_of_permuted}
use Rattle.progress.proofs.series.Series.figures.Goals as goal

pub figures_of-requires : goal.figures_of-requires
figures_of-requires c = rw c.deref.ensures.value (IsNonDecreasingBy-from_sort (λ x. x) c.sort.new.self.items c.in_ok-sort.ensures.sorted)

pub returns : goal.returns
returns c =
    subst (λ (t : Taken). AreFiguresOf t.micros c.figures_of.result) c.self.view_is
    (figures_of_permuted c.self.inside.micros.items c.sort.new.self.items c.figures_of.result c.in_ok-sort.ensures.permutation
    (rw c.deref.ensures.value at c.figures_of.ensures))
