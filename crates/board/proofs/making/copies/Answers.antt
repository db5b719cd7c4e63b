use Rattle.std.proofs.Common.{sym, subst, ◌∙◌}
use Rattle.board.specs.Board.{MatchesEntries}
use Rattle.board.proofs.First.{first_shows}
use Rattle.board.proofs.making.copies.Goals as goal

pub open-requires-clause-first : goal.open-requires-clause-first
open-requires-clause-first c =
    subst (MatchesEntries c.in_ok-versions.versions.installs c.args.safe c.args.horizon) (sym c.in_ok-note_all.ensures.first)
    (first_shows c.args.installs.now c.in_ok-versions.versions.installs c.args.places.now c.args.safe c.args.horizon c.requires
    c.in_ok-versions.ensures.versions)

pub open-requires-2-clause-first : goal.open-requires-2-clause-first
open-requires-2-clause-first c =
    subst (MatchesEntries c.in_ok-copy.copy.installs c.args.safe c.args.horizon) (sym c.in_ok-note_all.ensures.second)
    (first_shows c.args.installs.now c.in_ok-copy.copy.installs c.args.places.now c.args.safe c.args.horizon c.requires
    (c.in_ok-copy.ensures.versions ∙ c.in_ok-versions.ensures.versions))
