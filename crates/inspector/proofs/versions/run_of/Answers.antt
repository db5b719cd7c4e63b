use Rattle.std.proofs.Common.{◌-◌, drop, length, not, rules, take}
use Rattle.std.proofs.lemmas.List.Sorted.{IsPartitionPoint-from_clause}
use Rattle.units.specs.Keys.{key_before}
use Rattle.units.proofs.FrontLaws.{point_is_front}
use Rattle.units.proofs.KeyOrder.{before_by, not_before}
use Rattle.inspector.proofs.VersionLaws.{keys_before, keys_not_after, run_of_key}
use Rattle.inspector.proofs.versions.run_of.Goals as goal

pub returns : goal.returns
returns c =
    let k = c.args.key.now in
    let vs = c.args.versions.now in
    let p = c.partition_point-first.result in
    run_of_key k vs c.requires p c.partition_point-count.result
    (point_is_front (λ v. key_before v.write.key k) vs p c.partition_point-first.ensures.bound
    (IsPartitionPoint-from_clause (λ v. key_before v.write.key k) _ _ c.partition_point-first.ensures.partitioned (keys_before k vs c.requires)
    (λ a r q k. search (rules, before_by a.0.now.write.key c.args.key.now))))
    (point_is_front (λ v. not (key_before k v.write.key)) (take (length vs - p) (drop p vs)) _ c.partition_point-count.ensures.bound
    (IsPartitionPoint-from_clause (λ v. not (key_before k v.write.key)) _ _ c.partition_point-count.ensures.partitioned (keys_not_after k vs p c.requires)
    (λ a r q k. search (rules, not_before c.args.key.now a.0.now.write.key))))
