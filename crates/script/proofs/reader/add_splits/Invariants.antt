use Rattle.std.proofs.Common.{◌≡◌, ◌+◌, length}
use Rattle.script.proofs.reader.add_splits.Given as goal

abbrev pub invariant-loop-split : goal.invariant-loop-split
invariant-loop-split l = length l.keys.items + 1 ≡ l._split
