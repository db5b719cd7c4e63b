use Rattle.std.proofs.Common.{◌-◌, ◌<◌, ◌≤◌, [], length, get_or}
use Rattle.versions.specs.Pieces.{last_head}
use Rattle.versions.proofs.sequence.piece_at.Given as goal

abbrev pub invariant-loop-low : goal.invariant-loop-low
invariant-loop-low l = record {
  within : l.low ≤ l.high;
  end : l.high ≤ length l.pieces;
  below : 0 < l.low → last_head (get_or l.pieces (l.low - 1) []) < l.head;
  first : l.high < length l.pieces → l.head ≤ last_head (get_or l.pieces l.high []);
}

abbrev pub decreases-loop-low : goal.decreases-loop-low
decreases-loop-low l = l.high - l.low
