use Rattle.std.proofs.Common.{map, set, ap, ◌∙◌}
use Rattle.std.proofs.lemmas.List.{map-set, set-get_or}
use Rattle.versions.specs.declared.chunk.Spot.{Spot}
use Rattle.versions.specs.Headed.{Headed}
use Rattle.versions.proofs.placed.Places.set_head.Goals as goal

pub returns-clause-heads : goal.returns-clause-heads
returns-clause-heads c =
    let spot : Spot = record { place = c.get-place.result; head = c.args.head } in
    ap (map (λ (s : Spot). s.head)) c.set.ensures.spots
    ∙ map-set (λ s. s.head) c.self.inside.spots.spots c.args.at spot
    ∙ ap (λ (h : Headed). set h.heads c.args.at c.args.head) c.self.view_is

pub returns-clause-places : goal.returns-clause-places
returns-clause-places c =
    let spot : Spot = record { place = c.get-place.result; head = c.args.head } in
    let places = c.args.self.now.places in
    ap (map (λ (s : Spot). s.place)) c.set.ensures.spots
    ∙ map-set (λ s. s.place) c.self.inside.spots.spots c.args.at spot
    ∙ ap (λ (h : Headed). set h.places c.args.at c.get-place.result) c.self.view_is
    ∙ ap (λ p. set places c.args.at p) c.get-place.ensures
    ∙ set-get_or places c.args.at 0
