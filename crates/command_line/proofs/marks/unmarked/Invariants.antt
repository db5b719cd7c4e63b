-- The words that were kept, with what is kept of the others, are all that are kept.
use Rattle.std.proofs.Common.{◌≡◌, ◌++◌, false, drop, map}
use Rattle.command_line.specs.Lines.{unmarked_from}
use Rattle.command_line.proofs.marks.unmarked.Given as goal

abbrev pub invariant-loop-word : goal.invariant-loop-word
invariant-loop-word l =
    map (λ w. w.now) l.plain.items ++ unmarked_from l.ended (map (λ w. w.now) (drop l.word-index l.words))
    ≡ unmarked_from false (map (λ w. w.now) l.words)
