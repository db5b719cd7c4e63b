use Rattle.std.proofs.Common.{rules}
use Rattle.clap.specs.Words.{found_of}
use Rattle.command_line.proofs.FoundLemmas.{answered_as, get_found, refused_as}
use Rattle.command_line.proofs.words.read_get.Goals as goal

pub returns-in_err-key : goal.returns-in_err-key
returns-in_err-key c line name rows =
    refused_as _ c.args.marks line _ (get_found line (found_of c.args.given.now) _ _ _ name rows c.word-dir.ensures c.word-key.ensures c.get_str-at.ensures)
    (search rules)

pub returns-in_err-at : goal.returns-in_err-at
returns-in_err-at c line name rows =
    refused_as _ c.args.marks line _ (get_found line (found_of c.args.given.now) _ _ _ name rows c.word-dir.ensures c.word-key.ensures c.get_str-at.ensures)
    (search rules)

pub returns : goal.returns
returns c line name rows =
    answered_as c.args.marks line _ (get_found line (found_of c.args.given.now) _ _ _ name rows c.word-dir.ensures c.word-key.ensures c.get_str-at.ensures)
    (search rules)
