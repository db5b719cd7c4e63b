use Rattle.std.proofs.Common.{map, take, ap, ◌∙◌, sym}
use Rattle.std.proofs.lemmas.List.{take-map}
use Rattle.versions.specs.declared.chunk.Spot.{Spot}
use Rattle.versions.specs.Headed.{Headed}
use Rattle.versions.proofs.placed.Places.shorten.Goals as goal

pub returns-clause-places : goal.returns-clause-places
returns-clause-places c =
    ap (map (λ (s : Spot). s.place)) c.shorten.ensures.spots
    ∙ sym (take-map (λ s. s.place) c.args.len c.self.inside.spots.spots)
    ∙ ap (λ (h : Headed). take c.args.len h.places) c.self.view_is

pub returns-clause-heads : goal.returns-clause-heads
returns-clause-heads c =
    ap (map (λ (s : Spot). s.head)) c.shorten.ensures.spots
    ∙ sym (take-map (λ s. s.head) c.args.len c.self.inside.spots.spots)
    ∙ ap (λ (h : Headed). take c.args.len h.heads) c.self.view_is
