use Rattle.std.proofs.Common.{◌≡◌, ◌∙◌, ◌+◌, ◌-◌, length, get_or, ap, sym, arith}
use Rattle.versions.specs.Pieces.{Laid, joined, start_by}
use Rattle.versions.proofs.Pieces.{found_at, piece_is, get_there, start}
use Rattle.versions.proofs.sequence.Sequence.get.Goals as goal

pub overflow_add-at : goal.overflow_add-at
overflow_add-at c =
    let all : length (joined c.self.inside.pieces.items) ≡ length c.args.self.now.spots = ap (λ (v : Laid). length v.spots) c.self.view_is in
    omega (arith, all, c.requires, c.self.invariant)

pub index-requires : goal.index-requires
index-requires c =
    let ps = c.self.inside.pieces.items in
    let all : length (joined ps) ≡ length c.args.self.now.spots = ap (λ (v : Laid). length v.spots) c.self.view_is in
    let e = c.piece_of-number.ensures in
    let f = found_at ps c.deref.result.now c.args.at c.piece_of-number.result (c.deref.ensures.value ∙ c.self.invariant.1)
    (omega (arith, all, c.requires)) e.within e.below e.first in
    omega (arith, f.there)

pub get-requires : goal.get-requires
get-requires c =
    let ps = c.self.inside.pieces.items in
    let all : length (joined ps) ≡ length c.args.self.now.spots = ap (λ (v : Laid). length v.spots) c.self.view_is in
    let e = c.piece_of-number.ensures in
    let number = c.piece_of-number.result in
    let f = found_at ps c.deref.result.now c.args.at number (c.deref.ensures.value ∙ c.self.invariant.1)
    (omega (arith, all, c.requires)) e.within e.below e.first in
    let is = piece_is ps number c.index.result.now f.there c.index.ensures in
    let begins : c.start_of.result ≡ start ps number =
    c.start_of.ensures ∙ ap (λ es. start_by es number) (c.deref-2.ensures.value ∙ sym c.deref.ensures.value) ∙ f.begins in
    omega (arith, ap length is, begins, f.from, f.to)

pub returns : goal.returns
returns c =
    let ps = c.self.inside.pieces.items in
    let view = ap (λ (v : Laid). v.spots) c.self.view_is in
    let all : length (joined ps) ≡ length c.args.self.now.spots = ap length view in
    let e = c.piece_of-number.ensures in
    let number = c.piece_of-number.result in
    let d = c.get.result in
    let f = found_at ps c.deref.result.now c.args.at number (c.deref.ensures.value ∙ c.self.invariant.1)
    (omega (arith, all, c.requires)) e.within e.below e.first in
    let is = piece_is ps number c.index.result.now f.there c.index.ensures in
    let begins : c.start_of.result ≡ start ps number =
    c.start_of.ensures ∙ ap (λ es. start_by es number) (c.deref-2.ensures.value ∙ sym c.deref.ensures.value) ∙ f.begins in
    let same : start ps number + (c.args.at - c.start_of.result) ≡ c.args.at = omega (arith, begins, f.from) in
    c.get.ensures
    ∙ ap (λ q. get_or q (c.args.at - c.start_of.result) d) is
    ∙ sym (get_there ps number (c.args.at - c.start_of.result) d f.there (omega (arith, begins, f.from, f.to)))
    ∙ ap (λ m. get_or (joined ps) m d) same
    ∙ ap (λ l. get_or l c.args.at d) view
