-- The command has the arguments that were read, and the others are as they were.
use Rattle.std.proofs.Common.{◌≡◌, take}
use Rattle.clap.specs.Words.{app_of}
use Rattle.command_line.specs.Parser.{command_app}
use Rattle.command_line.specs.Views.{told_words}
use Rattle.command_line.proofs.parsing.add_command.Given as goal

abbrev pub invariant-loop-id : goal.invariant-loop-id
invariant-loop-id l = (app_of l.command ≡ command_app l.name (told_words (take l.id-index l.words)))
    × (l.commands ≡ l.initial.commands)
