use Rattle.std.proofs.Common.{◌+◌, ◌∙◌, ◌++◌, ap, sym, map, rules, Bor, List, [], slice_index_or}
use Rattle.command_line.specs.Lines.{Word}
use Rattle.command_line.proofs.MarkLemmas.{left_from, none_is_left, one_more_kept, word_kept, word_left}
use Rattle.command_line.proofs.marks.unmarked.Goals as goal
use Rattle.command_line.proofs.marks.unmarked.Goals.{then-is_kept+in_ok-push, else-is_kept}

-- what stands in no list
abbrev nothing : Bor Word
nothing = record { ref_ptr = (0, 0); now = [] }

pub loop-word-preserved : goal.loop-word-preserved
loop-word-preserved c =
    let words = c.args.words.now in
    let i = c.loop-word.word-index in
    let word : Bor Word = slice_index_or words i nothing in
    elim c.if-is_kept.branch [
      | then-is_kept+in_ok-push w ↦
          one_more_kept c.loop-word.plain.items c.if-is_kept.plain.items word (left_from c.has_ended-ended.result words (i + 1)) _ (search rules)
          (ap (λ (left : List Word). map (λ w. w.now) c.loop-word.plain.items ++ left)
          (sym (word_kept c.loop-word.ended c.has_ended-ended.result words i nothing c.loop-word-test.true c.has_ended-ended.ensures
          (sym c.is_kept.ensures ∙ w.if-is_kept.true)))
          ∙ c.loop-word.invariant)
      | else-is_kept w ↦
          ap (λ (plain : List (Bor Word)). map (λ w. w.now) plain ++ left_from c.has_ended-ended.result words (i + 1)) (search rules)
          ∙ ap (λ (left : List Word). map (λ w. w.now) c.loop-word.plain.items ++ left)
          (sym (word_left c.loop-word.ended c.has_ended-ended.result words i nothing c.loop-word-test.true c.has_ended-ended.ensures
          (sym c.is_kept.ensures ∙ w.if-is_kept.false)))
          ∙ c.loop-word.invariant
    ]

pub returns : goal.returns
returns c = none_is_left c.loop-word.ended c.args.words.now c.loop-word.word-index _ _ c.loop-word-test.false c.loop-word.invariant
