use Rattle.std.proofs.Common.{rules}
use Rattle.clap.specs.Words.{found_of}
use Rattle.command_line.proofs.FoundLemmas.{answered_as, once_found, refused_as}
use Rattle.command_line.proofs.words.read_once.Goals as goal

pub returns-in_err-key : goal.returns-in_err-key
returns-in_err-key c line name rows marks =
    refused_as _ marks line _ (once_found line (found_of c.args.given.now) _ _ _ _ _ _ name rows c.word-key.ensures c.word-value.ensures c.word-e1.ensures
    c.word-l1.ensures c.word-e2.ensures c.word-l2.ensures)
    (search rules)

pub returns-in_err-value : goal.returns-in_err-value
returns-in_err-value c line name rows marks =
    refused_as _ marks line _ (once_found line (found_of c.args.given.now) _ _ _ _ _ _ name rows c.word-key.ensures c.word-value.ensures c.word-e1.ensures
    c.word-l1.ensures c.word-e2.ensures c.word-l2.ensures)
    (search rules)

pub returns-in_err-first : goal.returns-in_err-first
returns-in_err-first c line name rows marks =
    refused_as _ marks line _ (once_found line (found_of c.args.given.now) _ _ _ _ _ _ name rows c.word-key.ensures c.word-value.ensures c.word-e1.ensures
    c.word-l1.ensures c.word-e2.ensures c.word-l2.ensures)
    (search rules)

pub returns-in_err-second : goal.returns-in_err-second
returns-in_err-second c line name rows marks =
    refused_as _ marks line _ (once_found line (found_of c.args.given.now) _ _ _ _ _ _ name rows c.word-key.ensures c.word-value.ensures c.word-e1.ensures
    c.word-l1.ensures c.word-e2.ensures c.word-l2.ensures)
    (search rules)

pub returns : goal.returns
returns c line name rows marks =
    answered_as marks line _ (once_found line (found_of c.args.given.now) _ _ _ _ _ _ name rows c.word-key.ensures c.word-value.ensures c.word-e1.ensures
    c.word-l1.ensures c.word-e2.ensures c.word-l2.ensures)
    (search rules)
