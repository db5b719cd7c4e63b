use Rattle.std.proofs.Common.{◌∙◌, nat_le, rules, subst, sym}
use Rattle.std.proofs.lemmas.List.Sorted.{IsPartitionPoint-from_clause}
use Rattle.units.proofs.FrontLaws.{point_is_front}
use Rattle.inspector.proofs.ValueLaws.{partitioned_up_to, shown_up_to}
use Rattle.inspector.specs.Versions.{AscendsByPlace}
use Rattle.inspector.proofs.VersionLaws.{places_ascend}
use Rattle.inspector.proofs.values.value_up_to.Goals as goal

pub returns : goal.returns
returns c =
    let ts = c.args.ordered.now in
    let k = c.args.key.now in
    c.value_before_place.ensures
    ∙ shown_up_to c.args.at ts c.args.versions.now k _ c.requires.serial (c.requires.same k)
    (point_is_front (λ t. nat_le t.at c.args.at) ts _ c.partition_point-place.ensures.bound
    (IsPartitionPoint-from_clause (λ t. nat_le t.at c.args.at) _ _ c.partition_point-place.ensures.partitioned
    (partitioned_up_to c.args.at ts c.requires.serial) (λ a r q k. search rules)))

pub value_before_place-requires-clause-places : goal.value_before_place-requires-clause-places
value_before_place-requires-clause-places c =
    subst AscendsByPlace (sym (c.requires.same c.args.key.now)) (places_ascend c.args.key.now c.args.ordered.now)
