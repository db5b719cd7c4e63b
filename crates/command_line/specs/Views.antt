-- Command lines and commands of the code, by their words.
use Rattle.std.specs.Prelude.{◌≡◌, ◌⊎◌, ℕ, List, MatchResult, Bool, ◌||◌, Result, Ok, Err, is_some, map, option_map}
use denote.Ref.{Bor}
use Rattle.clap.specs.Words.{Shape, Text}
use Rattle.units.specs.declared.fault.Fault.{Fault}
use Rattle.units.specs.declared.fault.Fault.TheVariants.{Memory}
use Rattle.command_line.specs.Commands.{Asked, Given, word_given, input_given, told_asked, once_asked, format_asked, play_asked, inspect_asked, drive_asked, dump_asked, history_asked}
use Rattle.command_line.specs.Commands.{command_of_line, told_or, get_asked, put_asked, stats_asked, migrate_asked, compact_asked, command_or_refusal}
use Rattle.command_line.specs.Lines.{CommandLine, Word, are_plain, line_of}
use Rattle.command_line.specs.Parser.{command_app}
use Rattle.command_line.specs.declared.commands.Command.{Command}
use Rattle.command_line.specs.declared.commands.Command.TheVariants as command
use Rattle.command_line.specs.declared.commands.Source.{Source}
use Rattle.command_line.specs.declared.commands.Source.TheVariants as source
use Rattle.command_line.specs.declared.marks.Marks.{Marks}
use Rattle.command_line.specs.declared.marks.Words.{Words}

-- the arguments of a command, each with how many words it takes at most
abbrev pub told_words : List (Bor Word × ℕ) → List (Text × ℕ)
told_words words = map (λ w. (w.0.now, w.1)) words

-- a command as the parser is told it
abbrev pub told_shape : Bor Word × Bor (List (Bor Word × ℕ)) → Shape
told_shape form = (command_app form.0.now (told_words form.1.now)).top

-- where a value comes from
abbrev pub given_by : Source → Given
given_by (source.Word value) = word_given value
given_by source.Input = input_given

-- what it asks for
abbrev pub asked_for : Command → Asked
asked_for (command.Told text) = told_asked text.now
asked_for (command.Once key value first second) = once_asked key value first second
asked_for (command.Format file) = format_asked file.now
asked_for (command.Play file) = play_asked file.now
asked_for (command.Inspect lines logs) = inspect_asked lines.now (map (λ w. w.now) logs.items)
asked_for (command.Drive file table) = drive_asked file.now table
asked_for (command.Dump file json) = dump_asked file.now json
asked_for (command.History dir key json) = history_asked dir.now key json
asked_for (command.Get dir key at form) = get_asked dir.now key at form
asked_for (command.Put dir key value) = put_asked dir.now key (given_by value)
asked_for (command.Stats logs json) = stats_asked (map (λ w. w.now) logs.items) json
asked_for (command.Migrate old new) = migrate_asked old.now new.now
asked_for (command.Compact old new) = compact_asked old.now new.now

-- the answer to what is asked: the command that it asks for, or why it is refused, or want of memory
abbrev pub AnswersAs : Result Asked Fault → Result Command Fault → Type 0
AnswersAs wanted answer = MatchResult answer (λ c. wanted ≡ Ok (asked_for c)) (λ f. (f ≡ Memory) ⊎ (wanted ≡ Err f))

-- to the line of a command that takes the options
abbrev pub Answers : Marks → CommandLine → Result Command Fault → Type 0
Answers marks line answer = AnswersAs (command_of_line marks line) answer

-- what words ask for that were read
abbrev pub asked_by : Words → Result Asked Fault
asked_by words = told_or (option_map (λ text. text.now) words.told)
    (command_or_refusal words.marks (line_of (map (λ w. w.now) words.plain.items)))

-- of which it is said
abbrev pub is_covered : Words → Bool
is_covered words = are_plain (map (λ w. w.now) words.plain.items) || is_some (option_map (λ text. text.now) words.told)
