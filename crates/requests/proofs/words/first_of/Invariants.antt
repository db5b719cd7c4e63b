use Rattle.std.proofs.Common.{length, ◌-◌, ◌≡◌, ◌==◌, ◌<◌, ◌≤◌, ℕ, false, get_or}
use Rattle.requests.proofs.words.first_of.Given as goal

abbrev pub invariant-loop-at : goal.invariant-loop-at
invariant-loop-at l = record {
  within : l.at ≤ length l.line;
  before : (k : ℕ) → k < l.at → (get_or l.line k 0 == l.mark) ≡ false;
}

abbrev pub decreases-loop-at : goal.decreases-loop-at
decreases-loop-at l = length l.line - l.at
