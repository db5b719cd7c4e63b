use Rattle.std.proofs.Common.{◌≡◌, List, ap, sym, subst, ◌∙◌}
use mathlib.Core.List.{IsPrefix}
use Rattle.growing.proofs.Prefixes.{prefix_self}
use Rattle.versions.specs.Places.{SameFrom}
use Rattle.board.specs.declared.entry.BoardEntry.{BoardEntry}
use Rattle.board.specs.Board.{horizon_on, safe_on, versions_on}
use Rattle.board.proofs.Longer.{shows_ahead}
use Rattle.board.proofs.board_copy.BoardCopy.commit.Goals as goal

pub invariant_of-self : goal.invariant_of-self
invariant_of-self c =
    let s = c.self.inside in
    let inv = c.self.invariant in
    let ahead = s.ahead.entries in
    let shown : c.follow.new.self.entries ≡ ahead = c.follow.ensures.0 in
    let kept = shows_ahead s.versions.installs c.forget-self-inside.new.versions.installs s.list.entries ahead s.horizon s.prepared_horizon inv.1 inv.5 inv.6 inv.2
    c.forget-self-inside.ensures in (
      inv.0 ∙ sym c.follow.ensures.2,
      subst (λ (es : List BoardEntry). IsPrefix es ahead) (sym shown) (prefix_self ahead),
      subst (λ (es : List BoardEntry). SameFrom (horizon_on es) c.forget-self-inside.new.versions.installs (versions_on ahead)) (sym shown) kept,
      inv.4 ∙ ap safe_on (sym shown),
      inv.4,
      inv.6 ∙ ap horizon_on (sym shown),
      inv.6,
    )
