use Rattle.std.proofs.Common.{ap, sym}
use Rattle.clap.specs.Words.{found_of}
use Rattle.command_line.specs.Commands.{command_of_line}
use Rattle.command_line.proofs.FoundLemmas.{inspect_found}
use Rattle.command_line.proofs.words.read_inspect.Goals as goal

pub returns : goal.returns
returns c line name rows marks =
    sym (ap (command_of_line marks) (inspect_found line (found_of c.args.given.now) _ _ name rows c.word-lines.ensures c.in_ok-logs.ensures))
