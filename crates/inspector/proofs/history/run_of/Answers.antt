use Rattle.std.proofs.Common.{◌∙◌, ◌-◌, drop, length, not, rules, take}
use Rattle.std.proofs.lemmas.List.Sorted.{IsPartitionPoint-from_clause}
use Rattle.units.specs.Ids.{older}
use Rattle.units.proofs.FrontLaws.{point_is_front}
use Rattle.record.specs.History.{Txn}
use Rattle.inspector.proofs.IdRuns.{older_first, run_first, run_is}
use Rattle.inspector.proofs.FoundLaws.{of_id_is, sample}
use Rattle.inspector.proofs.history.run_of.Goals as goal

pub returns : goal.returns
returns c =
    let t = c.args.txn in
    let us = c.args.found.now in
    let p = c.partition_point-first.result in
    run_is (λ (u : Txn). u.txn) (sample t) us c.requires p c.partition_point-count.result
    (point_is_front (λ u. older u.txn t) us p c.partition_point-first.ensures.bound
    (IsPartitionPoint-from_clause (λ u. older u.txn t) _ _ c.partition_point-first.ensures.partitioned
    (older_first (λ (u : Txn). u.txn) (sample t) us c.requires) (λ a r q k. search rules)))
    (point_is_front (λ u. not (older t u.txn)) (take (length us - p) (drop p us)) _ c.partition_point-count.ensures.bound
    (IsPartitionPoint-from_clause (λ u. not (older t u.txn)) _ _ c.partition_point-count.ensures.partitioned
    (run_first (λ (u : Txn). u.txn) (sample t) us p c.requires) (λ a r q k. search rules)))
    ∙ of_id_is t us
