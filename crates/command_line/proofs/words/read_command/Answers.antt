-- A parse that succeeds found the line, and one that fails for no want of memory met no line.
use Rattle.std.proofs.Common.{◌≡◌, ◌∙◌, sym, ap, subst, List, [], map, inl, inr}
use Rattle.clap.specs.Words.{App, fault_of, is_simple_and_free, is_simple, subcommand_of}
use Rattle.clap.specs.Kinds.{HasKind}
use Rattle.command_line.specs.Commands.{command_or_refusal}
use Rattle.command_line.specs.Lines.{Word}
use Rattle.command_line.specs.Parser.{shards_app}
use Rattle.command_line.specs.Views.{AnswersAs}
use Rattle.command_line.proofs.ProgramLemmas.{line_found, line_refused}
use Rattle.command_line.proofs.words.read_command.Goals as goal

pub returns-in-Ok : goal.returns-in-Ok
returns-in-Ok c plain =
    let words : List Word = map (λ w. w.now) c.args.words.now in
    let app_is = c.in_ok-shards.ensures in
    let quiet : fault_of shards_app words ≡ [] =
    ap (λ (a : App). fault_of a words) (sym app_is) ∙ c.in-Ok.ensures.kinds (ap is_simple_and_free app_is) in
    let found = line_found words plain quiet in
    let rows = (c.in-Ok.ensures.matches (ap is_simple app_is)).1 ∙ ap (λ (a : App). subcommand_of a words) app_is ∙ found.2 in
    subst (λ line. AnswersAs (command_or_refusal c.args.marks line) c.found_command.result) (sym found.1) (c.found_command.ensures found.0 rows)

pub returns : goal.returns
returns c plain =
    let words : List Word = map (λ w. w.now) c.args.words.now in
    let app_is = c.in_ok-shards.ensures in
    inr (ap (command_or_refusal c.args.marks) (line_refused words plain (λ quiet.
    let kinds : HasKind [] c.in-Err.error =
    subst (λ k. HasKind k c.in-Err.error) (ap (λ (a : App). fault_of a words) app_is ∙ quiet)
    (c.in-Err.ensures.kinds (ap is_simple_and_free app_is)) in
    elim kinds [
      | inl memory ↦ absurd (c.in_default.not-OutOfMemory (c.kind.ensures ∙ memory))
      | inr none ↦ none
    ])))
