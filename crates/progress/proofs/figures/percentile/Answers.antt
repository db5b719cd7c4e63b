-- The place is the last one of so many of a hundred.
use Rattle.std.proofs.Common.{◌<◌, length, arith}
use Rattle.progress.proofs.Percentiles.{percentile_of_place}
use Rattle.progress.proofs.figures.percentile.Goals as goal

pub returns-clause-value : goal.returns-clause-value
returns-clause-value c =
    let some : 0 < length c.args.sorted.now = grind (arith, c.is_empty.ensures) in
    rw c.from.ensures (percentile_of_place c.args.percent c.args.sorted.now 0 c.requires.sorted c.requires.percent.0 c.requires.percent.1 some)
