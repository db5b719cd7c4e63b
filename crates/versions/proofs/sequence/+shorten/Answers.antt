use Rattle.std.proofs.Common.{◌≡◌, ◌∙◌, ◌∷◌, ◌++◌, ◌+◌, ◌-◌, ◌≤◌, ℕ, List, [], length, take, ap, sym, subst, arith}
use Rattle.std.proofs.lemmas.List.{length-append, length-take, take-append-le}
use Rattle.std.proofs.Math.Seq.{take-append-add}
use Rattle.versions.specs.declared.chunk.Spot.{Spot}
use Rattle.versions.specs.Pieces.{joined, ends_from, start_by, IsLaid}
use Rattle.versions.proofs.Pieces.{length-ends, start-end, joined_end, laid_front, last_some, laid_cut, ends_end, ends_front}
use Rattle.versions.proofs.sequence.+shorten.Goals as goal

pub start_of-start-requires : goal.start_of-start-requires
start_of-start-requires t c =
    let ps = c.pop.new.self.items in
    let piece = c.in-Some.piece in
    let all = c.in-Some.ensures.items in
    let count : c.len.result ≡ length ps = omega (arith, c.len.ensures) in
    let left : c.truncate.new.self.items ≡ ends_from 0 ps =
    c.truncate.ensures.items
    ∙ ap (λ n. take n c.args.ends.now.items) count
    ∙ ap (take (length ps)) (c.requires.ends ∙ ap (ends_from 0) all)
    ∙ ends_front ps (piece ∷ []) 0 in
    omega (arith, c.len-2.ensures, ap length c.deref.ensures.value, ap length left, length-ends ps 0)

pub shorten-requires : goal.shorten-requires
shorten-requires t c =
    let ps = c.pop.new.self.items in
    let piece = c.in-Some.piece in
    let all = c.in-Some.ensures.items in
    let count : c.len.result ≡ length ps = omega (arith, c.len.ensures) in
    let left : c.truncate.new.self.items ≡ ends_from 0 ps =
    c.truncate.ensures.items
    ∙ ap (λ n. take n c.args.ends.now.items) count
    ∙ ap (take (length ps)) (c.requires.ends ∙ ap (ends_from 0) all)
    ∙ ends_front ps (piece ∷ []) 0 in
    let front = laid_front ps piece (subst IsLaid all c.requires.laid) in
    let one : length c.args.pieces.now.items ≡ length ps + 1 = ap length all ∙ length-append ps (piece ∷ []) in (
      omega (arith, one, c.decreases),
      (front, (left, omega (arith, one, c.requires.room, c.push_reserved.ensures.len, c.push_reserved.ensures.capacity))),
    )

pub returns-then-start-len-clause-spots : goal.returns-then-start-len-clause-spots
returns-then-start-len-clause-spots t c =
    let ps = c.pop.new.self.items in
    let piece = c.in-Some.piece in
    let all = c.in-Some.ensures.items in
    let count : c.len.result ≡ length ps = omega (arith, c.len.ensures) in
    let left : c.truncate.new.self.items ≡ ends_from 0 ps =
    c.truncate.ensures.items
    ∙ ap (λ n. take n c.args.ends.now.items) count
    ∙ ap (take (length ps)) (c.requires.ends ∙ ap (ends_from 0) all)
    ∙ ends_front ps (piece ∷ []) 0 in
    let begins : c.start_of-start.result ≡ length (joined ps) =
    c.start_of-start.ensures
    ∙ ap (λ (n : ℕ). start_by c.deref.result.now n) (c.len-2.ensures ∙ sym c.len.ensures ∙ count)
    ∙ start-end ps c.deref.result.now (c.deref.ensures.value ∙ left) in
    let less : c.args.len ≤ length (joined ps) = omega (arith, begins, c.if-start-len.true) in
    c.shorten.ensures.spots
    ∙ sym (take-append-le c.args.len (joined ps) piece less)
    ∙ ap (take c.args.len) (sym (ap joined all ∙ joined_end ps piece))

pub push_reserved-requires-2 : goal.push_reserved-requires-2
push_reserved-requires-2 t c =
    let ps = c.pop.new.self.items in
    let piece = c.in-Some.piece in
    let all = c.in-Some.ensures.items in
    let count : c.len.result ≡ length ps = omega (arith, c.len.ensures) in
    let left : c.truncate.new.self.items ≡ ends_from 0 ps =
    c.truncate.ensures.items
    ∙ ap (λ n. take n c.args.ends.now.items) count
    ∙ ap (take (length ps)) (c.requires.ends ∙ ap (ends_from 0) all)
    ∙ ends_front ps (piece ∷ []) 0 in
    let one : length c.args.pieces.now.items ≡ length ps + 1 = ap length all ∙ length-append ps (piece ∷ []) in
    omega (
      arith,
      one,
      ap length left,
      length-ends ps 0,
      c.truncate.ensures.len,
      c.truncate.ensures.capacity,
      ap length c.requires.ends,
      length-ends c.args.pieces.now.items 0,
    )

pub returns-clause-spots : goal.returns-clause-spots
returns-clause-spots t c =
    let ps = c.pop.new.self.items in
    let piece = c.in-Some.piece in
    let all = c.in-Some.ensures.items in
    let count : c.len.result ≡ length ps = omega (arith, c.len.ensures) in
    let left : c.truncate.new.self.items ≡ ends_from 0 ps =
    c.truncate.ensures.items
    ∙ ap (λ n. take n c.args.ends.now.items) count
    ∙ ap (take (length ps)) (c.requires.ends ∙ ap (ends_from 0) all)
    ∙ ends_front ps (piece ∷ []) 0 in
    let begins : c.start_of-start.result ≡ length (joined ps) =
    c.start_of-start.ensures
    ∙ ap (λ (n : ℕ). start_by c.deref.result.now n) (c.len-2.ensures ∙ sym c.len.ensures ∙ count)
    ∙ start-end ps c.deref.result.now (c.deref.ensures.value ∙ left) in
    let cut = c.args.len - c.start_of-start.result in
    let there : length (joined ps) + cut ≡ c.args.len = omega (arith, begins, c.if-start-len.false) in
    ap joined c.push_reserved-3.ensures.items
    ∙ joined_end ps c.shorten-2.new.self
    ∙ ap (λ (q : List Spot). joined ps ++ q) c.shorten-2.ensures
    ∙ sym (take-append-add (joined ps) piece cut)
    ∙ ap (λ n. take n (joined ps ++ piece)) there
    ∙ ap (take c.args.len) (sym (ap joined all ∙ joined_end ps piece))

pub returns-clause-laid : goal.returns-clause-laid
returns-clause-laid t c =
    let ps = c.pop.new.self.items in
    let piece = c.in-Some.piece in
    let all = c.in-Some.ensures.items in
    let count : c.len.result ≡ length ps = omega (arith, c.len.ensures) in
    let left : c.truncate.new.self.items ≡ ends_from 0 ps =
    c.truncate.ensures.items
    ∙ ap (λ n. take n c.args.ends.now.items) count
    ∙ ap (take (length ps)) (c.requires.ends ∙ ap (ends_from 0) all)
    ∙ ends_front ps (piece ∷ []) 0 in
    let begins : c.start_of-start.result ≡ length (joined ps) =
    c.start_of-start.ensures
    ∙ ap (λ (n : ℕ). start_by c.deref.result.now n) (c.len-2.ensures ∙ sym c.len.ensures ∙ count)
    ∙ start-end ps c.deref.result.now (c.deref.ensures.value ∙ left) in
    let cut = c.args.len - c.start_of-start.result in
    let laid = subst IsLaid all c.requires.laid in
    let long = ap length c.shorten-2.ensures ∙ length-take cut piece in
    subst IsLaid (sym c.push_reserved-3.ensures.items)
    (laid_cut ps piece c.shorten-2.new.self (omega (arith, long, last_some ps piece laid, c.if-start-len.false)) (omega (arith, long)) laid)

pub returns-clause-ends : goal.returns-clause-ends
returns-clause-ends t c =
    let ps = c.pop.new.self.items in
    let piece = c.in-Some.piece in
    let all = c.in-Some.ensures.items in
    let count : c.len.result ≡ length ps = omega (arith, c.len.ensures) in
    let left : c.truncate.new.self.items ≡ ends_from 0 ps =
    c.truncate.ensures.items
    ∙ ap (λ n. take n c.args.ends.now.items) count
    ∙ ap (take (length ps)) (c.requires.ends ∙ ap (ends_from 0) all)
    ∙ ends_front ps (piece ∷ []) 0 in
    let begins : c.start_of-start.result ≡ length (joined ps) =
    c.start_of-start.ensures
    ∙ ap (λ (n : ℕ). start_by c.deref.result.now n) (c.len-2.ensures ∙ sym c.len.ensures ∙ count)
    ∙ start-end ps c.deref.result.now (c.deref.ensures.value ∙ left) in
    let end : c.start_of-start.result + c.len-3.result ≡ length c.shorten-2.new.self + (length (joined ps) + 0) = omega (arith, begins, c.len-3.ensures.same) in
    c.push_reserved-2.ensures.items
    ∙ ap (λ (l : List ℕ). l ++ (c.start_of-start.result + c.len-3.result) ∷ []) left
    ∙ ap (λ (n : ℕ). ends_from 0 ps ++ n ∷ []) end
    ∙ sym (ends_end ps c.shorten-2.new.self 0)
    ∙ ap (ends_from 0) (sym c.push_reserved-3.ensures.items)
