use Rattle.std.proofs.Common.{◌∙◌, rules, subst, sym}
use Rattle.std.proofs.lemmas.List.Sorted.{IsPartitionPoint-from_clause}
use Rattle.units.proofs.FrontLaws.{point_is_front}
use Rattle.record.specs.History.{serial_before}
use Rattle.inspector.proofs.ValueLaws.{partitioned_before, shown_before}
use Rattle.inspector.specs.Versions.{AscendsByPlace}
use Rattle.inspector.proofs.VersionLaws.{places_ascend}
use Rattle.inspector.proofs.values.value_before.Goals as goal

pub returns : goal.returns
returns c =
    let ts = c.args.ordered.now in
    let k = c.args.key.now in
    c.value_before_place.ensures
    ∙ shown_before c.args.reader.now ts c.args.versions.now k _ c.requires.serial (c.requires.same k)
    (point_is_front (λ t. serial_before t c.args.reader.now) ts _ c.partition_point-place.ensures.bound
    (IsPartitionPoint-from_clause (λ t. serial_before t c.args.reader.now) _ _ c.partition_point-place.ensures.partitioned
    (partitioned_before c.args.reader.now ts c.requires.serial) (λ a r q k. search rules)))

pub value_before_place-requires-clause-places : goal.value_before_place-requires-clause-places
value_before_place-requires-clause-places c =
    subst AscendsByPlace (sym (c.requires.same c.args.key.now)) (places_ascend c.args.key.now c.args.ordered.now)
