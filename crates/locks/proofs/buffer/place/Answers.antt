use Rattle.std.proofs.Common.{◌∙◌, arith, refl, sym}
use Rattle.std.proofs.lemmas.List.Sorted.{IsPartitionPoint-from_clause}
use Rattle.units.specs.Keys.{key_before}
use Rattle.units.proofs.FrontLaws.{point_is_front}
use Rattle.units.proofs.KeyOrder.{before_by}
use Rattle.locks.proofs.Places.{behind_all, locks_before, front_is_place}
use Rattle.locks.proofs.buffer.place.Goals as goal

pub returns-then-lt-clause-place : goal.returns-then-lt-clause-place
returns-then-lt-clause-place c =
    behind_all c.args.lock.now c.in-Some.last.now c.args.locks.now c.requires (sym c.in-Some.ensures.value)
    (sym (before_by c.in-Some.last.now.key c.args.lock.now.key _ refl) ∙ sym c.lt.ensures ∙ c.if-lt.true)

pub returns-clause-place : goal.returns-clause-place
returns-clause-place c =
    let l = c.args.lock.now in
    let held = c.args.locks.now in
    point_is_front (λ h. key_before h.key l.key) held _ c.partition_point.ensures.bound
    (IsPartitionPoint-from_clause (λ h. key_before h.key l.key) _ _ c.partition_point.ensures.partitioned (locks_before l held c.requires)
    (λ a r q k. grind (arith, before_by, k)))
    ∙ front_is_place l held
