-- One argument more.
use Rattle.std.proofs.Common.{rules, ◌≡◌, ◌∙◌, sym, ap₂, refl, slice_index_or, ℕ, Bor, []}
use Rattle.clap.specs.Words.{rule_of, with_rule}
use Rattle.command_line.specs.Lines.{Word}
use Rattle.command_line.specs.Parser.{needed}
use Rattle.command_line.proofs.ParserLemmas.{argument, one_more, seen}
use Rattle.command_line.proofs.parsing.add_command.Goals as goal

-- what stands in no list
abbrev nothing : Bor Word × ℕ
nothing = (record { ref_ptr = (0, 0); now = [] }, 0)

pub loop-id-preserved : goal.loop-id-preserved
loop-id-preserved c =
    let word = slice_index_or c.args.words.now c.loop-id.id-index nothing in
    let rule : rule_of c.num_args.result ≡ needed (seen word) =
    argument c.new.result c.required.result c.num_args.result (seen word).0 (seen word).1 _ _ c.new.ensures.rule c.required.ensures
    c.num_args.ensures.0 c.num_args.ensures.1 c.new-in-loop-id.ensures.start c.new-in-loop-id.ensures.end in (
      c.in_ok-command.ensures.shape (search rules)
          ∙ ap₂ with_rule c.loop-id.invariant.0 rule
          ∙ sym (one_more c.args.name.now c.args.words.now c.loop-id.id-index nothing (search rules)),
      refl,
    )
