use Rattle.std.proofs.Common.{◌≡◌, ◌∙◌, length, set, sym, ap, arith}
use Rattle.versions.specs.Pieces.{Laid, joined, start_by}
use Rattle.versions.proofs.Pieces.{found_at, piece_is, set_at, start}
use Rattle.versions.proofs.sequence.Sequence.set.Goals as goal

pub index_mut-requires : goal.index_mut-requires
index_mut-requires c =
    let ps = c.self.inside.pieces.items in
    let all : length (joined ps) ≡ length c.args.self.now.spots = ap (λ (v : Laid). length v.spots) c.self.view_is in
    let e = c.piece_of-number.ensures in
    let f = found_at ps c.deref.result.now c.args.at c.piece_of-number.result (c.deref.ensures.value ∙ c.self.invariant.1)
    (omega (arith, all, c.requires)) e.within e.below e.first in
    omega (arith, f.there)

pub set-requires : goal.set-requires
set-requires c =
    let ps = c.self.inside.pieces.items in
    let view = ap (λ (v : Laid). v.spots) c.self.view_is in
    let all : length (joined ps) ≡ length c.args.self.now.spots = ap length view in
    let e = c.piece_of-number.ensures in
    let number = c.piece_of-number.result in
    let f = found_at ps c.deref.result.now c.args.at number (c.deref.ensures.value ∙ c.self.invariant.1)
    (omega (arith, all, c.requires)) e.within e.below e.first in
    let is = piece_is ps number c.index_mut.result.now f.there c.index_mut.ensures.value in
    let begins : c.start_of-start.result ≡ start ps number =
    c.start_of-start.ensures ∙ ap (λ es. start_by es number) (c.deref-2.ensures.value ∙ sym c.deref.ensures.value) ∙ f.begins in
    omega (arith, ap length is, begins, f.from, f.to)

pub invariant_of-self : goal.invariant_of-self
invariant_of-self c =
    let ps = c.self.inside.pieces.items in
    let view = ap (λ (v : Laid). v.spots) c.self.view_is in
    let all : length (joined ps) ≡ length c.args.self.now.spots = ap length view in
    let e = c.piece_of-number.ensures in
    let number = c.piece_of-number.result in
    let f = found_at ps c.deref.result.now c.args.at number (c.deref.ensures.value ∙ c.self.invariant.1)
    (omega (arith, all, c.requires)) e.within e.below e.first in
    let is = piece_is ps number c.index_mut.result.now f.there c.index_mut.ensures.value in
    let begins : c.start_of-start.result ≡ start ps number =
    c.start_of-start.ensures ∙ ap (λ es. start_by es number) (c.deref-2.ensures.value ∙ sym c.deref.ensures.value) ∙ f.begins in
    let made = set_at ps c.deref.result.now c.args.at number c.start_of-start.result c.index_mut.result.now c.set.new.self c.args.spot
    c.self.invariant.0 f begins is c.set.ensures in
    let i = c.self.invariant in
    (made.laid, i.1 ∙ made.ends, i.2 ∙ made.long, i.3, i.4, i.5, i.6, i.7)

pub returns-clause-spots : goal.returns-clause-spots
returns-clause-spots c =
    let ps = c.self.inside.pieces.items in
    let view = ap (λ (v : Laid). v.spots) c.self.view_is in
    let all : length (joined ps) ≡ length c.args.self.now.spots = ap length view in
    let e = c.piece_of-number.ensures in
    let number = c.piece_of-number.result in
    let f = found_at ps c.deref.result.now c.args.at number (c.deref.ensures.value ∙ c.self.invariant.1)
    (omega (arith, all, c.requires)) e.within e.below e.first in
    let is = piece_is ps number c.index_mut.result.now f.there c.index_mut.ensures.value in
    let begins : c.start_of-start.result ≡ start ps number =
    c.start_of-start.ensures ∙ ap (λ es. start_by es number) (c.deref-2.ensures.value ∙ sym c.deref.ensures.value) ∙ f.begins in
    let made = set_at ps c.deref.result.now c.args.at number c.start_of-start.result c.index_mut.result.now c.set.new.self c.args.spot
    c.self.invariant.0 f begins is c.set.ensures in
    made.spots ∙ ap (λ l. set l c.args.at c.args.spot) view
