use Rattle.std.proofs.Common.{◌≡◌, ◌∙◌, ◌+◌, ◌<◌, ℕ, List, [], length, drop, get_or, ap, sym, subst, arith}
use Rattle.std.specs.List.{insert}
use Rattle.std.proofs.lemmas.List.{take_at}
use Rattle.versions.specs.declared.chunk.Spot.{Spot}
use Rattle.versions.specs.Pieces.{joined, ends_from, start_by, divided, IsLaid, IsWithin}
use Rattle.versions.proofs.Pieces.{length-ends, start-is, start-within, start, are_halves, laid_divided, ends_divided, joined_divided}
use Rattle.versions.proofs.sequence.insert_by_halves.Goals as goal
use Rattle.versions.proofs.sequence.insert_by_halves.Goals.{then-at-middle, else-at-middle}

pub start_of-middle-requires : goal.start_of-middle-requires
start_of-middle-requires c =
    omega (arith, c.requires.number, ap length c.deref.ensures.value, ap length c.requires.ends, length-ends c.args.pieces.now.items 0)

pub overflow_add-middle : goal.overflow_add-middle
overflow_add-middle c =
    let ps = c.args.pieces.now.items in
    let n = c.args.number in
    let there : n < length ps = omega (arith, c.requires.number) in
    let begins : c.start_of-middle.result ≡ start_by (ends_from 0 ps) n =
    c.start_of-middle.ensures ∙ ap (λ (e : List ℕ). start_by e n) (c.deref.ensures.value ∙ c.requires.ends) in
    omega (arith, begins, start-is ps n (omega (arith, there)), start-within ps n [] there, c.requires.full, c.requires.limit)

pub insert_in-requires-clause-laid : goal.insert_in-requires-clause-laid
insert_in-requires-clause-laid c =
    let ps = c.args.pieces.now.items in
    let n = c.args.number in
    subst IsLaid (sym (c.deref_mut.ensures.value ∙ c.divide.ensures.pieces))
    (laid_divided ps n (omega (arith, c.requires.number)) c.requires.full c.requires.laid)

pub insert_in-requires-clause-ends : goal.insert_in-requires-clause-ends
insert_in-requires-clause-ends c =
    let ps = c.args.pieces.now.items in
    let n = c.args.number in
    let there : n < length ps = omega (arith, c.requires.number) in
    let begins : c.start_of-middle.result ≡ start_by (ends_from 0 ps) n =
    c.start_of-middle.ensures ∙ ap (λ (e : List ℕ). start_by e n) (c.deref.ensures.value ∙ c.requires.ends) in
    let all : c.deref_mut.result.now ≡ divided n ps = c.deref_mut.ensures.value ∙ c.divide.ensures.pieces in
    let middle : c.start_of-middle.result + 512 ≡ 512 + (start ps n + 0) = omega (arith, begins, start-is ps n (omega (arith, there))) in
    c.deref_mut-2.ensures.value
    ∙ c.divide.ensures.ends
    ∙ ap (λ (e : List ℕ). insert e n (c.start_of-middle.result + 512)) c.requires.ends
    ∙ ap (insert (ends_from 0 ps) n) middle
    ∙ sym (ends_divided ps n 0 there c.requires.full)
    ∙ ap (ends_from 0) (sym all)

pub insert_in-requires-clause-at : goal.insert_in-requires-clause-at
insert_in-requires-clause-at c =
    let ps = c.args.pieces.now.items in
    let n = c.args.number in
    let there : n < length ps = omega (arith, c.requires.number) in
    let begins : c.start_of-middle.result ≡ start_by (ends_from 0 ps) n =
    c.start_of-middle.ensures ∙ ap (λ (e : List ℕ). start_by e n) (c.deref.ensures.value ∙ c.requires.ends) in
    let all : c.deref_mut.result.now ≡ divided n ps = c.deref_mut.ensures.value ∙ c.divide.ensures.pieces in
    let halves = are_halves ps n c.requires.laid there c.requires.full in
    subst (λ (t : List (List Spot)). IsWithin t c.if-at-middle.half c.args.at) (sym all)
    (elim c.if-at-middle.branch [
      | then-at-middle w ↦ subst (λ (m : ℕ). IsWithin (divided n ps) m c.args.at) (sym w.half-is) (record {
        from = omega (arith, halves.begins, c.requires.at.from);
        to = omega (arith, halves.begins, halves.lower, begins, w.if-at-middle.true);
      })
      | else-at-middle w ↦ subst (λ (m : ℕ). IsWithin (divided n ps) m c.args.at) (sym w.half-is) (record {
        from = omega (arith, halves.middle, begins, w.if-at-middle.false);
        to = omega (arith, halves.middle, halves.upper, halves.whole, c.requires.at.to);
      })
    ])

pub insert_in-requires-clause-room : goal.insert_in-requires-clause-room
insert_in-requires-clause-room c =
    let ps = c.args.pieces.now.items in
    let n = c.args.number in
    let there : n < length ps = omega (arith, c.requires.number) in
    let begins : c.start_of-middle.result ≡ start_by (ends_from 0 ps) n =
    c.start_of-middle.ensures ∙ ap (λ (e : List ℕ). start_by e n) (c.deref.ensures.value ∙ c.requires.ends) in
    let all : c.deref_mut.result.now ≡ divided n ps = c.deref_mut.ensures.value ∙ c.divide.ensures.pieces in
    let halves = are_halves ps n c.requires.laid there c.requires.full in
    subst (λ (t : List (List Spot)). length (get_or t c.if-at-middle.half []) < 1024) (sym all)
    (elim c.if-at-middle.branch [
      | then-at-middle w ↦ subst (λ (m : ℕ). length (get_or (divided n ps) m []) < 1024) (sym w.half-is) (omega (arith, halves.lower))
      | else-at-middle w ↦ subst (λ (m : ℕ). length (get_or (divided n ps) m []) < 1024) (sym w.half-is) (omega (arith, halves.upper))
    ])

pub insert_in-requires-clause-limit : goal.insert_in-requires-clause-limit
insert_in-requires-clause-limit c =
    let ps = c.args.pieces.now.items in
    let n = c.args.number in
    let all = c.deref_mut.ensures.value ∙ c.divide.ensures.pieces in
    omega (arith, ap (λ (t : List (List Spot)). length (joined t)) all, ap length (joined_divided ps n), c.requires.limit)

pub returns-clause-spots : goal.returns-clause-spots
returns-clause-spots c =
    let ps = c.args.pieces.now.items in
    let n = c.args.number in
    let all : c.deref_mut.result.now ≡ divided n ps = c.deref_mut.ensures.value ∙ c.divide.ensures.pieces in
    let after = c.insert_in.new.pieces in
    let long : length after ≡ c.divide.new.pieces.len = omega (arith, c.insert_in.ensures.len, c.deref_mut.ensures.len) in
    ap joined (take_at after (drop (length after) c.divide.new.pieces.items) c.divide.new.pieces.len long)
    ∙ c.insert_in.ensures.spots
    ∙ ap (λ (t : List (List Spot)). insert (joined t) c.args.at c.args.spot) all
    ∙ ap (λ (l : List Spot). insert l c.args.at c.args.spot) (joined_divided ps n)
