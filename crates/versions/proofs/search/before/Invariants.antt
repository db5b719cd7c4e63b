use Rattle.std.proofs.Common.{◌-◌, ◌≤◌, length}
use Rattle.versions.specs.Arranged.{arranged}
use Rattle.versions.specs.Halves.{AllUpTo, AllAfter}
use Rattle.versions.proofs.search.before.Given as goal

abbrev pub invariant-loop-low : goal.invariant-loop-low
invariant-loop-low l = record {
  within : l.low ≤ l.high;
  end : l.high ≤ length l.places.places;
  before : AllUpTo l.key l.at (arranged l.installs l.places.places) l.low;
  after : AllAfter l.key l.at (arranged l.installs l.places.places) l.high;
}

abbrev pub decreases-loop-low : goal.decreases-loop-low
decreases-loop-low l = l.high - l.low
