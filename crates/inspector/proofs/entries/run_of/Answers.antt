use Rattle.std.proofs.Common.{◌-◌, drop, length, not, rules, take}
use Rattle.std.proofs.lemmas.List.Sorted.{IsPartitionPoint-from_clause}
use Rattle.units.specs.Ids.{Id, older}
use Rattle.units.proofs.FrontLaws.{point_is_front}
use Rattle.record.specs.declared.record.Record.TheVariants.{Abort}
use Rattle.inspector.specs.Entries.{About}
use Rattle.inspector.proofs.IdRuns.{older_first, run_first, run_is}
use Rattle.inspector.proofs.entries.run_of.Goals as goal

-- some record about a transaction
abbrev sample : Id → About
sample t = record { txn = t; shard = 0; item = Abort t }

pub returns : goal.returns
returns c =
    let t = c.args.txn in
    let es = c.args.entries.now in
    let p = c.partition_point-first.result in
    run_is (λ (e : About). e.txn) (sample t) es c.requires p c.partition_point-count.result
    (point_is_front (λ e. older e.txn t) es p c.partition_point-first.ensures.bound
    (IsPartitionPoint-from_clause (λ e. older e.txn t) _ _ c.partition_point-first.ensures.partitioned
    (older_first (λ (e : About). e.txn) (sample t) es c.requires) (λ a r q k. search rules)))
    (point_is_front (λ e. not (older t e.txn)) (take (length es - p) (drop p es)) _ c.partition_point-count.ensures.bound
    (IsPartitionPoint-from_clause (λ e. not (older t e.txn)) _ _ c.partition_point-count.ensures.partitioned
    (run_first (λ (e : About). e.txn) (sample t) es p c.requires) (λ a r q k. search rules)))
