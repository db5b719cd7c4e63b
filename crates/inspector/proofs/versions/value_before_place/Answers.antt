use Rattle.std.proofs.Common.{◌∙◌, List, None, ap, nat_lt, rules, subst, sym, take}
use Rattle.std.proofs.lemmas.List.Sorted.{IsPartitionPoint-from_clause}
use Rattle.units.proofs.FrontLaws.{point_is_front}
use Rattle.inspector.specs.Versions.{PlacedWrite, AscendsByPlace, before_place, last_value}
use Rattle.inspector.proofs.VersionLaws.{first_places, places_before}
use Rattle.inspector.proofs.versions.value_before_place.Goals as goal

pub returns : goal.returns
returns c =
    let n = c.args.place in
    let run : List PlacedWrite = c.run_of-run.result.now in
    let up : AscendsByPlace run = subst AscendsByPlace (sym c.run_of-run.ensures) c.requires.places in
    c.last_of.ensures
    ∙ ap (λ p. last_value (take p run) None)
    (point_is_front (λ v. nat_lt v.place n) run _ c.partition_point-count.ensures.bound
    (IsPartitionPoint-from_clause (λ v. nat_lt v.place n) _ _ c.partition_point-count.ensures.partitioned (places_before n run up) (λ a r q k. search rules)))
    ∙ ap (λ vs. last_value vs None) (first_places n run up ∙ ap (λ (vs : List PlacedWrite). before_place n vs) c.run_of-run.ensures)
