use Rattle.std.proofs.Common.{List, ◌++◌, sym, ap, subst, ◌∙◌}
use mathlib.Core.List.{IsPrefix}
use Rattle.growing.proofs.Prefixes.{prefix_self}
use Rattle.board.specs.declared.entry.BoardEntry.{BoardEntry}
use Rattle.versions.specs.Places.{SameFrom}
use Rattle.board.specs.Board.{MatchesEntries, horizon_on, versions_on}
use Rattle.board.proofs.board_copy.BoardCopy.open.Goals as goal

pub follow-requires : goal.follow-requires
follow-requires c = (c.args.ahead.entries, ap (λ (es : List BoardEntry). es ++ c.args.ahead.entries) c.requires.begun.0)

pub invariant_of-result : goal.invariant_of-result
invariant_of-result c =
    let ahead = c.args.ahead.entries in
    let first = c.requires.first in
    let shown = subst (MatchesEntries c.args.versions.installs c.args.safe c.args.horizon) (sym c.follow.ensures.0) first in (
      sym (c.follow.ensures.2 ∙ c.requires.begun.1),
      subst (λ (es : List BoardEntry). IsPrefix es ahead) (sym c.follow.ensures.0) (prefix_self ahead),
      subst (λ (es : List BoardEntry). SameFrom (horizon_on es) c.args.versions.installs (versions_on ahead)) (sym c.follow.ensures.0) first.same,
      shown.served,
      first.served,
      shown.since,
      first.since,
    )
