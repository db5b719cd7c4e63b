use Rattle.std.proofs.Common.{codes, refl, rules}
use Rattle.clap.specs.Words.{found_of}
use Rattle.command_line.specs.Lines.{history}
use Rattle.command_line.proofs.FoundLemmas.{answered_as, two_found, refused_as}
use Rattle.command_line.proofs.words.read_history.Goals as goal

pub returns-in_err-key : goal.returns-in_err-key
returns-in_err-key c line name rows =
    refused_as _ c.args.marks line _ (two_found line (found_of c.args.given.now) (codes "history") (codes "dir") (codes "key") history _ _ (λ rows. refl) name rows
    c.word-dir.ensures c.word.ensures)
    (search rules)

pub returns : goal.returns
returns c line name rows =
    answered_as c.args.marks line _ (two_found line (found_of c.args.given.now) (codes "history") (codes "dir") (codes "key") history _ _ (λ rows. refl) name rows
    c.word-dir.ensures c.word.ensures)
    (search rules)
