use Rattle.std.proofs.Common.{◌∙◌, ap, codes, refl, sym}
use Rattle.clap.specs.Words.{found_of}
use Rattle.command_line.specs.Commands.{command_of_line}
use Rattle.command_line.specs.Lines.{compact, drive, dump, format, migrate, play}
use Rattle.command_line.proofs.FoundLemmas.{one_found, two_found}
use Rattle.command_line.proofs.words.named_command.Goals as goal

pub returns-in-once : goal.returns-in-once
returns-in-once c line named rows = c.read_once.ensures line (named ∙ c.in-once.is) rows c.args.marks

pub returns-in-inspect : goal.returns-in-inspect
returns-in-inspect c line named rows = c.read_inspect.ensures line (named ∙ c.in-inspect.is) rows c.args.marks

pub returns-in-history : goal.returns-in-history
returns-in-history c line named rows = c.read_history.ensures line (named ∙ c.in-history.is) rows

pub returns-in-get : goal.returns-in-get
returns-in-get c line named rows = c.read_get.ensures line (named ∙ c.in-get.is) rows

pub returns-in-put : goal.returns-in-put
returns-in-put c line named rows = c.read_put.ensures line (named ∙ c.in-put.is) rows

pub returns-in-stats : goal.returns-in-stats
returns-in-stats c line named rows = c.read_stats.ensures line (named ∙ c.in-stats.is) rows

pub returns-in-format : goal.returns-in-format
returns-in-format c line named rows =
    sym (ap (command_of_line c.args.marks) (one_found line (found_of c.args.given.now) (codes "format") (codes "file") format _ (λ rows. refl) (named ∙ c.in-format.is) rows
    c.word.ensures))

pub returns-in-play : goal.returns-in-play
returns-in-play c line named rows =
    sym (ap (command_of_line c.args.marks) (one_found line (found_of c.args.given.now) (codes "play") (codes "file") play _ (λ rows. refl) (named ∙ c.in-play.is) rows
    c.word-in-play.ensures))

pub returns-in-drive : goal.returns-in-drive
returns-in-drive c line named rows =
    sym (ap (command_of_line c.args.marks) (one_found line (found_of c.args.given.now) (codes "drive") (codes "file") drive _ (λ rows. refl) (named ∙ c.in-drive.is) rows
    c.word-in-drive.ensures))

pub returns-in-dump : goal.returns-in-dump
returns-in-dump c line named rows =
    sym (ap (command_of_line c.args.marks) (one_found line (found_of c.args.given.now) (codes "dump") (codes "file") dump _ (λ rows. refl) (named ∙ c.in-dump.is) rows
    c.word-in-dump.ensures))

pub returns-in-migrate : goal.returns-in-migrate
returns-in-migrate c line named rows =
    sym (ap (command_of_line c.args.marks) (two_found line (found_of c.args.given.now) (codes "migrate") (codes "old") (codes "new") migrate _ _ (λ rows. refl)
    (named ∙ c.in-migrate.is) rows c.word-old.ensures c.word-new.ensures))

pub returns-in-compact : goal.returns-in-compact
returns-in-compact c line named rows =
    sym (ap (command_of_line c.args.marks) (two_found line (found_of c.args.given.now) (codes "compact") (codes "old") (codes "new") compact _ _ (λ rows. refl)
    (named ∙ c.in-compact.is) rows c.word-old-in-compact.ensures c.word-new-in-compact.ensures))
