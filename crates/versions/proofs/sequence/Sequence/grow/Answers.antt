use Rattle.std.proofs.Common.{◌∙◌, length, sym, ap, subst, arith}
use Rattle.versions.specs.Pieces.{joined, ends_from, IsLaid}
use Rattle.versions.proofs.Pieces.{length-ends}
use Rattle.versions.proofs.sequence.Sequence.grow.Goals as goal

pub invariant_of-self-2 : goal.invariant_of-self-2
invariant_of-self-2 c =
    let i = c.self.invariant in
    let pieces = c.in_ok-reserve.ensures in
    let ends = c.in_ok-reserve-2.ensures in
    let spare = c.in_ok-reserve-3.ensures in
    let more = c.push_reserved.ensures in
    let space = c.in-Some.ensures in (
      subst IsLaid (sym pieces.items) i.0,
      ends.items ∙ i.1 ∙ ap (ends_from 0) (sym pieces.items),
      i.2 ∙ ap (λ ps. length (joined ps)) (sym pieces.items),
      omega (arith, i, space, pieces.len, spare.len, more.len),
      omega (arith, i, space),
      omega (arith, pieces.len, pieces.ok, spare.len, more.len, c.len.ensures),
      omega (arith, pieces.len, ends.len, ends.ok, spare.len, more.len, c.len-2.ensures, ap length i.1, length-ends c.self.inside.pieces.items 0),
      omega (arith, pieces.len, spare.len, spare.ok, more.len, more.capacity, c.len-3.ensures),
    )
