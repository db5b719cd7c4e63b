use Rattle.std.proofs.Common.{◌<◌, length, map, set, get_or, sym, ap, ◌∙◌, arith}
use Rattle.std.proofs.lemmas.List.{map-set, get_or-map, length-map}
use Rattle.versions.specs.declared.chunk.Spot.{Spot}
use Rattle.versions.specs.Headed.{Headed}
use Rattle.versions.proofs.placed.Places.copy.Goals as goal

pub returns-clause-places : goal.returns-clause-places
returns-clause-places c =
    let spots = c.self.inside.spots.spots in
    let lt : c.args.from < length spots =
    omega (arith, length-map spots (λ (s : Spot). s.place), ap (λ (h : Headed). length h.places) c.self.view_is, c.requires.from) in
    ap (map (λ (s : Spot). s.place)) c.set.ensures.spots
    ∙ map-set (λ s. s.place) spots c.args.to c.get-spot.result
    ∙ ap (λ n. set (map (λ (s : Spot). s.place) spots) c.args.to n)
    (ap (λ (s : Spot). s.place) c.get-spot.ensures ∙ sym (get_or-map (λ s. s.place) spots c.args.from c.get-spot.result 0 lt))
    ∙ ap (λ (h : Headed). set h.places c.args.to (get_or h.places c.args.from 0)) c.self.view_is

pub returns-clause-heads : goal.returns-clause-heads
returns-clause-heads c =
    let spots = c.self.inside.spots.spots in
    let lt : c.args.from < length spots =
    omega (arith, length-map spots (λ (s : Spot). s.place), ap (λ (h : Headed). length h.places) c.self.view_is, c.requires.from) in
    ap (map (λ (s : Spot). s.head)) c.set.ensures.spots
    ∙ map-set (λ s. s.head) spots c.args.to c.get-spot.result
    ∙ ap (λ n. set (map (λ (s : Spot). s.head) spots) c.args.to n)
    (ap (λ (s : Spot). s.head) c.get-spot.ensures ∙ sym (get_or-map (λ s. s.head) spots c.args.from c.get-spot.result 0 lt))
    ∙ ap (λ (h : Headed). set h.heads c.args.to (get_or h.heads c.args.from 0)) c.self.view_is
