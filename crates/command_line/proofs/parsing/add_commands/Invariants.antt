-- The commands that were told stand behind the others.
use Rattle.std.proofs.Common.{◌≡◌, ◌++◌, map, take}
use Rattle.clap.specs.Words.{shape_of}
use Rattle.command_line.specs.Views.{told_shape}
use Rattle.command_line.proofs.parsing.add_commands.Given as goal

abbrev pub invariant-loop-name : goal.invariant-loop-name
invariant-loop-name l = map shape_of l.commands.items ≡ map shape_of l.initial.commands.items ++ map told_shape (take l.name-index l.forms)
