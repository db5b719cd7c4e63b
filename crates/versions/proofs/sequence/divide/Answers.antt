use Rattle.std.proofs.Common.{◌≡◌, ◌∙◌, ◌+◌, ◌<◌, ℕ, suc, List, [], length, take, drop, set, get_or, ap, arith}
use Rattle.std.specs.List.{insert}
use Rattle.versions.specs.declared.chunk.Spot.{Spot}
use Rattle.versions.proofs.Pieces.{length-ends, divided_is, piece_is}
use Rattle.versions.proofs.sequence.divide.Goals as goal

pub insert-requires-2 : goal.insert-requires-2
insert-requires-2 c = omega (arith, c.requires.number, ap length c.requires.ends, length-ends c.args.pieces.now.items 0)

pub unreachable-requires-in-Err-insert : goal.unreachable-requires-in-Err-insert
unreachable-requires-in-Err-insert c =
    omega (arith, c.in-Err-insert.ensures.full, c.requires.room, ap length c.requires.ends, length-ends c.args.pieces.now.items 0)

pub returns-clause-pieces : goal.returns-clause-pieces
returns-clause-pieces c =
    let ps = c.args.pieces.now.items in
    let n = c.args.number in
    let there : n < length ps = omega (arith, c.requires.number) in
    let is = piece_is ps n c.index_mut.result.now there c.index_mut.ensures.value in
    let next : n + 1 ≡ suc n = omega arith in
    c.in-Ok.ensures.items
    ∙ ap (λ (q : List Spot). insert (set ps n q) (n + 1) c.split.new.upper) (c.split.ensures.lower ∙ ap (take 512) is)
    ∙ ap (λ (q : List Spot). insert (set ps n (take 512 (get_or ps n []))) (n + 1) q) (c.split.ensures.upper ∙ ap (drop 512) is)
    ∙ ap (λ (m : ℕ). insert (set ps n (take 512 (get_or ps n []))) m (drop 512 (get_or ps n []))) next
    ∙ divided_is ps n there

pub returns-clause-capacity : goal.returns-clause-capacity
returns-clause-capacity c = (
  (c.in-Ok.ensures.in_place (omega (arith, c.requires.room))).1.0,
  (c.in-Ok-insert.ensures.in_place (omega (arith, c.requires.room, ap length c.requires.ends, length-ends c.args.pieces.now.items 0))).1.0,
)
