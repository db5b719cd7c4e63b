-- The sum over the logs that were read.
use Rattle.std.proofs.Common.{◌≡◌, ◌≤◌, ◌*◌, ◌^◌, take}
use Rattle.showing.specs.StatsTexts.{sum_of}
use Rattle.showing.proofs.figure.Figure.sum.Given as goal

abbrev pub invariant-loop-numbers : goal.invariant-loop-numbers
invariant-loop-numbers l = record {
  value : l.sum ≡ sum_of l.self (take l.numbers-index l.logs);
  small : l.sum ≤ l.numbers-index * 2 ^ 64;
}
