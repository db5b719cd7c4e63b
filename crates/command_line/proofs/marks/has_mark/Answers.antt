use Rattle.std.proofs.Common.{◌∙◌, sym, Bor, []}
use Rattle.command_line.specs.Lines.{Word}
use Rattle.command_line.proofs.MarkLemmas.{mark_behind, mark_here}
use Rattle.command_line.proofs.marks.has_mark.Goals as goal

-- what stands in no list
abbrev nothing : Bor Word
nothing = record { ref_ptr = (0, 0); now = [] }

pub returns-then-eq-2 : goal.returns-then-eq-2
returns-then-eq-2 c =
    sym (c.loop-word.invariant ∙ mark_here c.args.mark.now c.args.words.now c.loop-word.word-index nothing c.loop-word-test.true
    (sym c.eq.ensures ∙ c.if-eq.false) (sym c.eq-in-loop-word.ensures ∙ c.if-eq-2.true))

pub loop-word-preserved : goal.loop-word-preserved
loop-word-preserved c =
    c.loop-word.invariant
    ∙ mark_behind c.args.mark.now c.args.words.now c.loop-word.word-index nothing c.loop-word-test.true
    (sym c.eq.ensures ∙ c.if-eq.false) (sym c.eq-in-loop-word.ensures ∙ c.if-eq-2.false)
