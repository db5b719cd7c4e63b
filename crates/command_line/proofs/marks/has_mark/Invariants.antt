-- What was read neither is the option nor ends the options.
use Rattle.std.proofs.Common.{◌≡◌, drop, map}
use Rattle.command_line.specs.Lines.{has_mark}
use Rattle.command_line.proofs.marks.has_mark.Given as goal

abbrev pub invariant-loop-word : goal.invariant-loop-word
invariant-loop-word l = has_mark l.mark (map (λ w. w.now) l.words) ≡ has_mark l.mark (map (λ w. w.now) (drop l.word-index l.words))
