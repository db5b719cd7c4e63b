use Rattle.std.proofs.Common.{ℕ, ◌+◌, ◌++◌, List, length, map, take, drop, ap, sym, ◌∙◌, arith}
use Rattle.std.specs.List.{insert}
use Rattle.std.proofs.lemmas.List.{length-map}
use Rattle.versions.specs.declared.chunk.Spot.{Spot}
use Rattle.versions.specs.Headed.{Headed}
use Rattle.versions.proofs.Spots.{map-insert}
use Rattle.versions.proofs.TakenIn.{gap, gap-is, map-gap}
use Rattle.versions.proofs.placed.Places.shift.Goals as goal

pub shift-requires-clause-to : goal.shift-requires-clause-to
shift-requires-clause-to c =
    let spots = c.self.inside.spots.spots in
    omega (arith, length-map spots (λ (s : Spot). s.place), ap (λ (h : Headed). length h.places) c.self.view_is, c.requires.to)

pub returns-clause-places : goal.returns-clause-places
returns-clause-places c =
    let spot : Spot = record { place = c.args.place; head = c.args.head } in
    let spots = c.self.inside.spots.spots in
    ap (map (λ (s : Spot). s.place)) (c.shift.ensures.spots ∙ ap (λ (t : List Spot). insert t c.args.to spot) (gap-is c.args.from spots))
    ∙ map-insert (λ s. s.place) (gap c.args.from spots) c.args.to spot
    ∙ ap (λ (t : List ℕ). insert t c.args.to c.args.place)
    (map-gap (λ (s : Spot). s.place) c.args.from spots ∙ sym (gap-is c.args.from (map (λ (s : Spot). s.place) spots)))
    ∙ ap (λ (h : Headed). insert (take c.args.from h.places ++ drop (c.args.from + 1) h.places) c.args.to c.args.place) c.self.view_is

pub returns-clause-heads : goal.returns-clause-heads
returns-clause-heads c =
    let spot : Spot = record { place = c.args.place; head = c.args.head } in
    let spots = c.self.inside.spots.spots in
    ap (map (λ (s : Spot). s.head)) (c.shift.ensures.spots ∙ ap (λ (t : List Spot). insert t c.args.to spot) (gap-is c.args.from spots))
    ∙ map-insert (λ s. s.head) (gap c.args.from spots) c.args.to spot
    ∙ ap (λ (t : List ℕ). insert t c.args.to c.args.head)
    (map-gap (λ (s : Spot). s.head) c.args.from spots ∙ sym (gap-is c.args.from (map (λ (s : Spot). s.head) spots)))
    ∙ ap (λ (h : Headed). insert (take c.args.from h.heads ++ drop (c.args.from + 1) h.heads) c.args.to c.args.head) c.self.view_is
