use Rattle.std.proofs.Common.{ap, sym}
use Rattle.clap.specs.Words.{found_of}
use Rattle.command_line.specs.Commands.{command_of_line}
use Rattle.command_line.proofs.FoundLemmas.{stats_found}
use Rattle.command_line.proofs.words.read_stats.Goals as goal

pub returns : goal.returns
returns c line name rows = sym (ap (command_of_line c.args.marks) (stats_found line (found_of c.args.given.now) _ name rows c.in_ok-logs.ensures))
