use Rattle.std.proofs.Common.{◌+◌, ◌-◌, ◌<◌, ◌≤◌, length, get_or}
use Rattle.lives.specs.Spots.{IsBefore, IsPast, no_spot}
use Rattle.lives.proofs.spots.passed.Given as goal

abbrev pub invariant-loop-low : goal.invariant-loop-low
invariant-loop-low l = record {
  within : l.low ≤ l.high;
  end : l.high ≤ length l.line;
  before : 0 < l.low → IsBefore (l.from + l.count) l.until (get_or l.line (l.low - 1) no_spot);
  past : l.high < length l.line → IsPast (l.from + l.count) l.until (get_or l.line l.high no_spot);
}

abbrev pub decreases-loop-low : goal.decreases-loop-low
decreases-loop-low l = l.high - l.low
