use Rattle.std.proofs.Common.{◌≡◌, ◌+◌, ◌-◌, ◌<◌, ◌≤◌, ◌^◌, length}
use Rattle.versions.specs.Arranged.{arranged}
use Rattle.versions.specs.Halves.{AllUpTo, AllAfter}
use Rattle.versions.proofs.Halves.{LeftFits, LeftNeeds}
use Rattle.versions.proofs.search.find.Given as goal

abbrev pub invariant-loop-low : goal.invariant-loop-low
invariant-loop-low l = record {
  within : l.low ≤ l.high;
  end : l.high ≤ length l.places.places;
  before : AllUpTo l.key l.at (arranged l.installs l.places.places) l.low;
  after : AllAfter l.key l.at (arranged l.installs l.places.places) l.high;
  all : length l.places.places < 2 ^ 64;
  fits : LeftFits (length l.places.places) (l.high - l.low) l.probes;
  needed : LeftNeeds (length l.places.places) (l.high - l.low) l.probes;
  counted : l.compared.number ≡ l.fn.compared.number + l.probes;
}

abbrev pub decreases-loop-low : goal.decreases-loop-low
decreases-loop-low l = l.high - l.low
