use Rattle.clap.specs.Words.{found_of}
use Rattle.command_line.proofs.FoundLemmas.{named_as, rows_are}
use Rattle.command_line.proofs.words.found_command.Goals as goal

pub returns-in-Some : goal.returns-in-Some
returns-in-Some c line e =
    c.taken_command.ensures line (named_as c.args.matches.now line c.in-Some.name.now e c.in-Some.ensures.name)
    (rows_are c.args.matches.now line (found_of c.in-Some.given.now) e c.in-Some.ensures.rows)
