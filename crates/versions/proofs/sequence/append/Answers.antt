use Rattle.std.proofs.Common.{◌≡◌, ◌∙◌, ◌∷◌, ◌++◌, ◌+◌, ℕ, List, [], length, ap, sym, subst, arith}
use Rattle.std.specs.List.{insert}
use Rattle.versions.specs.declared.chunk.Spot.{Spot}
use Rattle.versions.specs.Pieces.{joined, ends_from, start_by, IsLaid}
use Rattle.versions.proofs.Pieces.{length-ends, start-end, joined_end, laid_end, ends_end}
use Rattle.versions.proofs.sequence.append.Goals as goal

pub start_of-end-requires : goal.start_of-end-requires
start_of-end-requires c =
    let ps = c.args.pieces.now.items in
    omega (arith, c.len.ensures, ap length c.deref.ensures.value, ap length c.requires.ends, length-ends ps 0)

pub overflow_add-end : goal.overflow_add-end
overflow_add-end c =
    let ps = c.args.pieces.now.items in
    let count : c.len.result ≡ length ps = omega (arith, c.len.ensures) in
    let begins : c.start_of-end.result ≡ length (joined ps) =
    c.start_of-end.ensures ∙ ap (start_by c.deref.result.now) count ∙ start-end ps c.deref.result.now (c.deref.ensures.value ∙ c.requires.ends) in
    omega (arith, begins, c.requires.limit)

pub push_reserved-requires-2 : goal.push_reserved-requires-2
push_reserved-requires-2 c =
    omega (arith, ap length c.requires.ends, length-ends c.args.pieces.now.items 0, c.requires.room)

pub returns-clause-spots : goal.returns-clause-spots
returns-clause-spots c =
    let ps = c.args.pieces.now.items in
    let own : c.insert.new.self ≡ c.args.spot ∷ [] = c.insert.ensures ∙ ap (λ (l : List Spot). insert l 0 c.args.spot) c.shorten.ensures in
    ap joined c.push_reserved.ensures.items ∙ joined_end ps c.insert.new.self ∙ ap (λ (l : List Spot). joined ps ++ l) own

pub returns-clause-laid : goal.returns-clause-laid
returns-clause-laid c =
    let ps = c.args.pieces.now.items in
    let own : c.insert.new.self ≡ c.args.spot ∷ [] = c.insert.ensures ∙ ap (λ (l : List Spot). insert l 0 c.args.spot) c.shorten.ensures in
    let one : length c.insert.new.self ≡ 1 = ap length own in
    subst IsLaid (sym c.push_reserved.ensures.items)
    (laid_end ps c.insert.new.self (omega (arith, one)) (omega (arith, one)) c.requires.half c.requires.laid)

pub returns-clause-ends : goal.returns-clause-ends
returns-clause-ends c =
    let ps = c.args.pieces.now.items in
    let own : c.insert.new.self ≡ c.args.spot ∷ [] = c.insert.ensures ∙ ap (λ (l : List Spot). insert l 0 c.args.spot) c.shorten.ensures in
    let count : c.len.result ≡ length ps = omega (arith, c.len.ensures) in
    let begins : c.start_of-end.result ≡ length (joined ps) =
    c.start_of-end.ensures ∙ ap (start_by c.deref.result.now) count ∙ start-end ps c.deref.result.now (c.deref.ensures.value ∙ c.requires.ends) in
    let end : c.start_of-end.result + 1 ≡ length c.insert.new.self + (length (joined ps) + 0) = omega (arith, begins, ap length own) in
    c.push_reserved-2.ensures.items
    ∙ ap (λ (l : List ℕ). l ++ (c.start_of-end.result + 1) ∷ []) c.requires.ends
    ∙ ap (λ (n : ℕ). ends_from 0 ps ++ n ∷ []) end
    ∙ sym (ends_end ps c.insert.new.self 0)
    ∙ ap (ends_from 0) (sym c.push_reserved.ensures.items)
