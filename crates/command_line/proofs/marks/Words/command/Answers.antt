-- Words that ask for no text are read as a command.
use Rattle.std.proofs.Common.{◌≡◌, ◌∙◌, ◌||◌, ap, map, option_map, subst, sym, true, Bor, List, None, Option, Result}
use Rattle.std.specs.Prelude.{is_some}
use Rattle.std.proofs.Math.Bool.{or-false}
use Rattle.units.specs.declared.fault.Fault.{Fault}
use Rattle.command_line.specs.Commands.{Asked, command_or_refusal, told_or}
use Rattle.command_line.specs.Lines.{Word, are_plain, line_of}
use Rattle.command_line.specs.Views.{AnswersAs, asked_by, is_covered}
use Rattle.command_line.specs.declared.marks.Words.{Words}
use Rattle.command_line.proofs.marks.Words.command.Goals as goal

abbrev plain_of : Words → List Word
plain_of words = map (λ w. w.now) words.plain.items

plain_then : (words : Words) → words.told ≡ None → is_covered words ≡ true → are_plain (plain_of words) ≡ true
plain_then words none covered =
    sym (or-false (are_plain (plain_of words)))
    ∙ ap (λ (told : Option (Bor Word)). are_plain (plain_of words) || is_some (option_map (λ text. text.now) told)) (sym none)
    ∙ covered

line_then : (words : Words) → words.told ≡ None → asked_by words ≡ command_or_refusal words.marks (line_of (plain_of words))
line_then words none =
    ap (λ (told : Option (Bor Word)). told_or (option_map (λ text. text.now) told) (command_or_refusal words.marks (line_of (plain_of words)))) none

pub returns-in-None : goal.returns-in-None
returns-in-None c covered =
    let words = c.args.self.now in
    subst (λ (r : Result Asked Fault). AnswersAs r c.read_command.result) (sym (line_then words c.in-None.is))
    (subst (λ (ws : List (Bor Word)). are_plain (map (λ w. w.now) ws) ≡ true
    → AnswersAs (command_or_refusal words.marks (line_of (map (λ w. w.now) ws))) c.read_command.result)
    c.as_slice.ensures.value c.read_command.ensures (plain_then words c.in-None.is covered))
