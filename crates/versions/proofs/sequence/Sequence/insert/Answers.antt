use Rattle.std.proofs.Common.{◌∙◌, ◌<◌, ◌≤◌, List, [], length, get_or, ap, sym, subst, arith}
use Rattle.versions.specs.declared.chunk.Spot.{Spot}
use Rattle.versions.specs.Pieces.{Laid, joined, IsWithin}
use Rattle.versions.proofs.Pieces.{found_for, none_found, some_pieces, piece_is, many_full, is_last, start-is}
use Rattle.versions.proofs.sequence.Sequence.insert.Goals as goal
use Rattle.versions.proofs.sequence.Sequence.insert.Goals.{else-number-len-via-then-number-len+else-len-lt-PIECE, else-number-len-via-else-number-len}

pub insert_in-requires-clause-at : goal.insert_in-requires-clause-at
insert_in-requires-clause-at c =
    let ps = c.self.inside.pieces.items in
    let at = c.args.at in
    let number = c.piece_of-number.result in
    let e = c.piece_of-number.ensures in
    let is = c.deref.ensures.value ∙ c.self.invariant.1 in
    let le : at ≤ length (joined ps) = omega (arith, ap (λ (v : Laid). length v.spots) c.self.view_is, c.requires.at) in
    let some : 0 < length ps = omega (arith, c.if-number-len.true, c.len.ensures) in
    subst (λ (t : List (List Spot)). IsWithin t number at) (sym c.deref_mut.ensures.value)
    (found_for ps c.deref.result.now at number is some le e.within e.below e.first).1

pub unreachable-requires : goal.unreachable-requires
unreachable-requires c =
    let ps = c.self.inside.pieces.items in
    let at = c.args.at in
    let number = c.piece_of-number.result in
    let e = c.piece_of-number.ensures in
    let is = c.deref.ensures.value ∙ c.self.invariant.1 in
    let le : at ≤ length (joined ps) = omega (arith, ap (λ (v : Laid). length v.spots) c.self.view_is, c.requires.at) in
    let room = ap (λ (v : Laid). v.room) c.self.view_is in
    let i = c.self.invariant in
    elim c.else-number-len.branch [
      | else-number-len-via-then-number-len+else-len-lt-PIECE w ↦
          let there : number < length ps = omega (arith, w.if-number-len.true, c.len.ensures) in
          let own = ap length (piece_is ps number w.index.result.now there w.index.ensures) in
          let full : 1024 ≤ length (get_or ps number []) = omega (arith, own, w.len-then-number-len.ensures.same, w.if-len-lt-PIECE.false) in
          omega (arith, many_full ps number there full i.0, i.2, i.3, c.in_default.ensures.cases.0)
      | else-number-len-via-else-number-len w ↦
          let none = none_found ps c.deref.result.now at number is le e.within e.below e.first (omega (arith, w.if-number-len.false, c.len.ensures)) in
          omega (arith, none, i.3, c.in_default.ensures.cases.0, room, c.requires.room)
    ]

pub insert_by_halves-requires-clause-number : goal.insert_by_halves-requires-clause-number
insert_by_halves-requires-clause-number c =
    let ps = c.self.inside.pieces.items in
    let at = c.args.at in
    let number = c.piece_of-number.result in
    let e = c.piece_of-number.ensures in
    let is = c.deref.ensures.value ∙ c.self.invariant.1 in
    let le : at ≤ length (joined ps) = omega (arith, ap (λ (v : Laid). length v.spots) c.self.view_is, c.requires.at) in
    elim c.else-number-len.branch [
      | else-number-len-via-then-number-len+else-len-lt-PIECE w ↦ omega (arith, w.if-number-len.true, c.len.ensures)
      | else-number-len-via-else-number-len w ↦
          let none = none_found ps c.deref.result.now at number is le e.within e.below e.first (omega (arith, w.if-number-len.false, c.len.ensures)) in
          absurd (omega (arith, none, some_pieces ps (omega (arith, c.self.invariant.2, c.if-at-self.true))))
    ]

pub insert_by_halves-requires-clause-at : goal.insert_by_halves-requires-clause-at
insert_by_halves-requires-clause-at c =
    let ps = c.self.inside.pieces.items in
    let at = c.args.at in
    let number = c.piece_of-number.result in
    let e = c.piece_of-number.ensures in
    let is = c.deref.ensures.value ∙ c.self.invariant.1 in
    let le : at ≤ length (joined ps) = omega (arith, ap (λ (v : Laid). length v.spots) c.self.view_is, c.requires.at) in
    let some = some_pieces ps (omega (arith, c.self.invariant.2, c.if-at-self.true)) in
    (found_for ps c.deref.result.now at number is some le e.within e.below e.first).1

pub insert_by_halves-requires-clause-full : goal.insert_by_halves-requires-clause-full
insert_by_halves-requires-clause-full c =
    let ps = c.self.inside.pieces.items in
    let at = c.args.at in
    let number = c.piece_of-number.result in
    let e = c.piece_of-number.ensures in
    let is = c.deref.ensures.value ∙ c.self.invariant.1 in
    let le : at ≤ length (joined ps) = omega (arith, ap (λ (v : Laid). length v.spots) c.self.view_is, c.requires.at) in
    elim c.else-number-len.branch [
      | else-number-len-via-then-number-len+else-len-lt-PIECE w ↦
          let there : number < length ps = omega (arith, w.if-number-len.true, c.len.ensures) in
          let own = ap length (piece_is ps number w.index.result.now there w.index.ensures) in
          let full : 1024 ≤ length (get_or ps number []) = omega (arith, own, w.len-then-number-len.ensures.same, w.if-len-lt-PIECE.false) in
          full
      | else-number-len-via-else-number-len w ↦
          let none = none_found ps c.deref.result.now at number is le e.within e.below e.first (omega (arith, w.if-number-len.false, c.len.ensures)) in
          absurd (omega (arith, none, some_pieces ps (omega (arith, c.self.invariant.2, c.if-at-self.true))))
    ]

pub append-requires-clause-half : goal.append-requires-clause-half
append-requires-clause-half c = λ some.
    let ps = c.self.inside.pieces.items in
    let at = c.args.at in
    let number = c.piece_of-number.result in
    let e = c.piece_of-number.ensures in
    let is = c.deref.ensures.value ∙ c.self.invariant.1 in
    let le : at ≤ length (joined ps) = omega (arith, ap (λ (v : Laid). length v.spots) c.self.view_is, c.requires.at) in
    elim c.else-number-len.branch [
      | else-number-len-via-then-number-len+else-len-lt-PIECE w ↦
          let there : number < length ps = omega (arith, w.if-number-len.true, c.len.ensures) in
          let own = ap length (piece_is ps number w.index.result.now there w.index.ensures) in
          let full : 1024 ≤ length (get_or ps number []) = omega (arith, own, w.len-then-number-len.ensures.same, w.if-len-lt-PIECE.false) in
          let f = found_for ps c.deref.result.now at number is some le e.within e.below e.first in
          let begins = start-is ps number (omega (arith, there)) in
          let last = is_last ps number there (omega (arith, f.1.to, begins, c.self.invariant.2, c.if-at-self.false)) c.self.invariant.0 in
          omega (arith, full, ap (λ n. length (get_or ps n [])) last)
      | else-number-len-via-else-number-len w ↦
          let none = none_found ps c.deref.result.now at number is le e.within e.below e.first (omega (arith, w.if-number-len.false, c.len.ensures)) in
          absurd (omega (arith, none, some))
    ]
