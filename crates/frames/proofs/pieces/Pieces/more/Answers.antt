use Rattle.std.proofs.lemmas.List.{length-drop}
use Rattle.std.proofs.Common.{rules, ◌≡◌, ◌∙◌, ◌+◌, ◌-◌, ◌≤◌, ℕ, List, ◌++◌, length, take, drop, sym, ap, subst, arith}
use Rattle.disk.specs.File.{surface}
use Rattle.frames.specs.Ahead.{Ahead, IsAhead}
use Rattle.frames.proofs.Ahead.{one_piece, read_on}
use Rattle.frames.proofs.pieces.Pieces.more.Goals as goal

pub piece_at-requires : goal.piece_at-requires
piece_at-requires g c keeps =
    let inside = c.self.inside in
    let few : c.min-count.result ≤ inside.len - inside.read = (search rules) in
    omega (
      arith,
      few,
      (c.requires.there keeps).size,
      ap (λ (a : Ahead). a.at + length a.bytes + a.left) c.self.view_is,
      length-drop inside.passed inside.window.items,
      inside.within,
      inside.before,
      inside.inside,
    )

-- what was read and not passed, with the piece behind it
module _ (g : _) (c : goal.After-drop-piece-2 g) where
  items : c.extend_from_slice.new.self.items ≡ drop c.self.inside.passed c.self.inside.window.items ++ c.in_ok-piece.piece.items
  items = (search rules)

  stands : (length c.extend_from_slice.new.self.items ≡ length (drop c.self.inside.passed c.self.inside.window.items) + c.min-count.result)
      × (c.self.inside.read + c.min-count.result + 0 - length c.extend_from_slice.new.self.items
      ≡ c.self.inside.read + c.self.inside.passed - length c.self.inside.window.items)
  stands =
      let inside = c.self.inside in
      read_on inside.passed inside.read c.min-count.result inside.window.items c.in_ok-piece.piece.items c.extend_from_slice.new.self.items
      inside.within inside.before items c.in_ok-piece.ensures.size

  few : c.min-count.result ≤ c.self.inside.len - c.self.inside.read
  few = (search rules)

pub returns-clause-at : goal.returns-clause-at
returns-clause-at g c = (stands g c).1 ∙ ap (λ (a : Ahead). a.at) c.self.view_is

pub returns-clause-less : goal.returns-clause-less
returns-clause-less g c = omega (arith, c.requires.left, ap (λ (a : Ahead). a.left) c.self.view_is)

pub returns-clause-total : goal.returns-clause-total
returns-clause-total g c =
    omega (arith, (stands g c).0, few g c, c.self.inside.inside, ap (λ (a : Ahead). length a.bytes + a.left) c.self.view_is)

pub returns-clause-piece : goal.returns-clause-piece
returns-clause-piece g c n most left = omega (arith, (stands g c).0, most, left, ap (λ (a : Ahead). a.left) c.self.view_is)

pub returns-clause-there : goal.returns-clause-there
returns-clause-there g c keeps =
    let image = (surface (g.D.Disk.file c.args.disk.now)).seen in
    let inside = c.self.inside in
    let front = drop inside.passed inside.window.items in
    let count = c.min-count.result in
    let at = inside.read + inside.passed - length inside.window.items in
    let now : IsAhead image (record { at = at; bytes = front; left = inside.len - inside.read }) =
    subst (IsAhead image) (sym c.self.view_is) (c.requires.there keeps) in
    let size : at + length front ≡ inside.read = omega (arith, length-drop inside.passed inside.window.items, inside.within, inside.before) in
    let left : inside.len - (inside.read + count) + count ≡ inside.len - inside.read = omega (arith, few g c, inside.inside) in
    let piece : c.in_ok-piece.piece.items ≡ take count (drop (at + length front) image) =
    c.in_ok-piece.ensures.bytes keeps ∙ ap (λ n. take count (drop n image)) (sym size) in
    let more = one_piece image at front (inside.len - inside.read) count (inside.len - (inside.read + count)) c.in_ok-piece.piece.items now
    (few g c) left piece in
    subst (λ (a : Ahead). IsAhead image a)
    (λ i. record { at = sym (stands g c).1 i; bytes = sym (items g c) i; left = inside.len - (inside.read + count) }) more
