use Rattle.std.proofs.Common.{map, set, ap, ◌∙◌}
use Rattle.std.proofs.lemmas.List.{map-set, set-get_or}
use Rattle.versions.specs.declared.chunk.Spot.{Spot}
use Rattle.versions.specs.Headed.{Headed}
use Rattle.versions.proofs.placed.Places.set_place.Goals as goal

pub returns-clause-places : goal.returns-clause-places
returns-clause-places c =
    let spot : Spot = record { place = c.args.place; head = c.head-head.result } in
    ap (map (λ (s : Spot). s.place)) c.set.ensures.spots
    ∙ map-set (λ s. s.place) c.self.inside.spots.spots c.args.at spot
    ∙ ap (λ (h : Headed). set h.places c.args.at c.args.place) c.self.view_is

pub returns-clause-heads : goal.returns-clause-heads
returns-clause-heads c =
    let spot : Spot = record { place = c.args.place; head = c.head-head.result } in
    let heads = c.args.self.now.heads in
    ap (map (λ (s : Spot). s.head)) c.set.ensures.spots
    ∙ map-set (λ s. s.head) c.self.inside.spots.spots c.args.at spot
    ∙ ap (λ (h : Headed). set h.heads c.args.at c.head-head.result) c.self.view_is
    ∙ ap (λ p. set heads c.args.at p) c.head-head.ensures
    ∙ set-get_or heads c.args.at 0
