use Rattle.std.proofs.Common.{◌-◌, ◌<◌, ◌≤◌, length, get_or}
use Rattle.versions.specs.Pieces.{heads_of}
use Rattle.versions.proofs.chunk.Piece.first_at.Given as goal

abbrev pub invariant-loop-low : goal.invariant-loop-low
invariant-loop-low l = record {
  within : l.low ≤ l.high;
  end : l.high ≤ length l.self;
  below : 0 < l.low → get_or (heads_of l.self) (l.low - 1) 0 < l.head;
  first : l.high < length l.self → l.head ≤ get_or (heads_of l.self) l.high 0;
}

abbrev pub decreases-loop-low : goal.decreases-loop-low
decreases-loop-low l = l.high - l.low
