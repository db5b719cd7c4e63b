use Rattle.std.proofs.Common.{◌≡◌, ◌∙◌, ◌+◌, ◌-◌, ◌<◌, ◌≤◌, List, [], length, get_or, ap, sym, subst, arith}
use Rattle.std.proofs.lemmas.Bool.Decides.{nat_tests}
use Rattle.versions.specs.declared.chunk.Spot.{Spot}
use Rattle.versions.specs.Pieces.{Laid, joined, heads_of, last_head, start_by}
use Rattle.versions.proofs.Pieces.{length-ends, start-is, start-all, start-within, head_before, head_below, head_first, piece_is, start}
use Rattle.versions.proofs.sequence.Sequence.first_at.Goals as goal

pub start_of-requires : goal.start_of-requires
start_of-requires c =
    let ps = c.self.inside.pieces.items in
    omega (
      arith,
      c.piece_at-number.ensures.within,
      ap length c.deref.ensures.value,
      ap length c.deref-in-Some.ensures.value,
      ap length c.self.invariant.1,
      length-ends ps 0,
    )

pub returns-in-Some-clause-within : goal.returns-in-Some-clause-within
returns-in-Some-clause-within c =
    let ps = c.self.inside.pieces.items in
    let all : length (joined ps) ≡ length c.args.self.now.spots = ap (λ (v : Laid). length v.spots) c.self.view_is in
    let number = c.piece_at-number.result in
    let there : number < length ps = grind (arith, nat_tests, c.in-Some.ensures.lookup.0, ap length c.deref-2.ensures.value) in
    let is =
    piece_is ps number c.in-Some.piece.now there (c.in-Some.ensures.lookup.1 ∙ ap (λ t. get_or t number c.in-Some.piece.now) c.deref-2.ensures.value) in
    let begins : c.start_of.result ≡ start ps number =
    c.start_of.ensures ∙ ap (λ es. start_by es number) (c.deref-in-Some.ensures.value ∙ c.self.invariant.1) ∙ start-is ps number (omega (arith, there)) in
    omega (arith, all, begins, ap length is, c.first_at.ensures.within, start-within ps number [] there)

pub overflow_add-result : goal.overflow_add-result
overflow_add-result c =
    let all : length (joined c.self.inside.pieces.items) ≡ length c.args.self.now.spots = ap (λ (v : Laid). length v.spots) c.self.view_is in
    omega (arith, all, c.self.invariant, returns-in-Some-clause-within c)

pub returns-in-Some-clause-below : goal.returns-in-Some-clause-below
returns-in-Some-clause-below c = λ some.
    let ps = c.self.inside.pieces.items in
    let view = ap (λ (v : Laid). v.spots) c.self.view_is in
    let number = c.piece_at-number.result in
    let j = c.first_at.result in
    let head = c.args.head in
    let there : number < length ps = grind (arith, nat_tests, c.in-Some.ensures.lookup.0, ap length c.deref-2.ensures.value) in
    let is =
    piece_is ps number c.in-Some.piece.now there (c.in-Some.ensures.lookup.1 ∙ ap (λ t. get_or t number c.in-Some.piece.now) c.deref-2.ensures.value) in
    let begins : c.start_of.result ≡ start ps number =
    c.start_of.ensures ∙ ap (λ es. start_by es number) (c.deref-in-Some.ensures.value ∙ c.self.invariant.1) ∙ start-is ps number (omega (arith, there)) in
    let within : j ≤ length (get_or ps number []) = omega (arith, ap length is, c.first_at.ensures.within) in
    let here = subst (λ (p : List Spot). 0 < j → get_or (heads_of p) (j - 1) 0 < head) is c.first_at.ensures.below in
    let below =
    subst (λ (t : List (List Spot)). 0 < number → last_head (get_or t (number - 1) []) < head) c.deref.ensures.value c.piece_at-number.ensures.below in
    let found = head_below ps number head c.self.invariant.0 below j there within here (omega (arith, begins, some)) in
    omega (
      arith,
      found,
      ap (λ t. get_or (heads_of t) (c.start_of.result + j - 1) 0) view,
      ap (λ m. get_or (heads_of (joined ps)) (m + j - 1) 0) begins,
    )

pub returns-in-Some-clause-first : goal.returns-in-Some-clause-first
returns-in-Some-clause-first c = λ lt.
    let ps = c.self.inside.pieces.items in
    let view = ap (λ (v : Laid). v.spots) c.self.view_is in
    let number = c.piece_at-number.result in
    let j = c.first_at.result in
    let head = c.args.head in
    let there : number < length ps = grind (arith, nat_tests, c.in-Some.ensures.lookup.0, ap length c.deref-2.ensures.value) in
    let is =
    piece_is ps number c.in-Some.piece.now there (c.in-Some.ensures.lookup.1 ∙ ap (λ t. get_or t number c.in-Some.piece.now) c.deref-2.ensures.value) in
    let begins : c.start_of.result ≡ start ps number =
    c.start_of.ensures ∙ ap (λ es. start_by es number) (c.deref-in-Some.ensures.value ∙ c.self.invariant.1) ∙ start-is ps number (omega (arith, there)) in
    let within : j ≤ length (get_or ps number []) = omega (arith, ap length is, c.first_at.ensures.within) in
    let here = subst (λ (p : List Spot). 0 < j → get_or (heads_of p) (j - 1) 0 < head) is c.first_at.ensures.below in
    let last = subst (λ (t : List (List Spot)). head ≤ last_head (get_or t number [])) c.deref.ensures.value
    (c.piece_at-number.ensures.first (omega (arith, there, ap length c.deref.ensures.value))) in
    let from = subst (λ (p : List Spot). j < length p → head ≤ get_or (heads_of p) j 0) is c.first_at.ensures.first in
    let found = head_first ps number j head c.self.invariant.0 there last within here from in
    omega (
      arith,
      found,
      ap (λ t. get_or (heads_of t) (c.start_of.result + j) 0) view,
      ap (λ m. get_or (heads_of (joined ps)) (m + j) 0) begins,
    )

pub returns-in-None-clause-below : goal.returns-in-None-clause-below
returns-in-None-clause-below c = λ some.
    let ps = c.self.inside.pieces.items in
    let view = ap (λ (v : Laid). v.spots) c.self.view_is in
    let number = c.piece_at-number.result in
    let head = c.args.head in
    let most : length ps ≤ number = grind (arith, nat_tests, c.in-None.ensures.lookup.0, ap length c.deref-2.ensures.value) in
    let all : number ≡ length ps = omega (arith, most, c.piece_at-number.ensures.within, ap length c.deref.ensures.value) in
    let below =
    subst (λ (t : List (List Spot)). 0 < number → last_head (get_or t (number - 1) []) < head) c.deref.ensures.value c.piece_at-number.ensures.below in
    let end : start ps number ≡ c.self.inside.len = ap (start ps) all ∙ start-all ps ∙ sym c.self.invariant.2 in
    let found = head_before ps number head c.self.invariant.0 below (omega (arith, all)) (omega (arith, end, some)) in
    omega (
      arith,
      found,
      ap (λ t. get_or (heads_of t) (c.self.inside.len - 1) 0) view,
      ap (λ m. get_or (heads_of (joined ps)) (m - 1) 0) end,
    )
