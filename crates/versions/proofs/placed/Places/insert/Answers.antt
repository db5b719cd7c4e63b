use Rattle.std.proofs.Common.{map, ap, ◌∙◌}
use Rattle.std.specs.List.{insert}
use Rattle.versions.specs.declared.chunk.Spot.{Spot}
use Rattle.versions.specs.Headed.{Headed}
use Rattle.versions.proofs.Spots.{map-insert}
use Rattle.versions.proofs.placed.Places.insert.Goals as goal

pub returns-clause-places : goal.returns-clause-places
returns-clause-places c =
    let spot : Spot = record { place = c.args.place; head = c.args.head } in
    ap (map (λ (s : Spot). s.place)) c.insert.ensures.spots
    ∙ map-insert (λ s. s.place) c.self.inside.spots.spots c.args.at spot
    ∙ ap (λ (h : Headed). insert h.places c.args.at c.args.place) c.self.view_is

pub returns-clause-heads : goal.returns-clause-heads
returns-clause-heads c =
    let spot : Spot = record { place = c.args.place; head = c.args.head } in
    ap (map (λ (s : Spot). s.head)) c.insert.ensures.spots
    ∙ map-insert (λ s. s.head) c.self.inside.spots.spots c.args.at spot
    ∙ ap (λ (h : Headed). insert h.heads c.args.at c.args.head) c.self.view_is
