use Rattle.std.proofs.Common.{◌≡◌, ◌∙◌, ◌-◌, ◌<◌, false, ap, arith, get_or, length, nat_le, nat_lt, rules, sym, take}
use Rattle.std.proofs.lemmas.List.Sorted.{IsPartitionPoint-from_clause}
use Rattle.units.specs.Fronts.{front}
use Rattle.units.proofs.FrontLaws.{point_is_front}
use Rattle.inspector.specs.Acks.{last_reaches}
use Rattle.inspector.specs.declared.acks.Ack.{Ack}
use Rattle.inspector.proofs.AckLaws.{earlier_first, last_of}
use Rattle.inspector.proofs.acks.is_late_by.Goals as goal

pub returns-then-count-eq0 : goal.returns-then-count-eq0
returns-then-count-eq0 c =
    let m = c.args.moment in
    let acks = c.args.acks.now in
    let count : c.partition_point-count.result ≡ front (λ (a : Ack). nat_lt a.moment m) acks =
    point_is_front (λ a. nat_lt a.moment m) acks _ c.partition_point-count.ensures.bound
    (IsPartitionPoint-from_clause (λ a. nat_lt a.moment m) _ _ c.partition_point-count.ensures.partitioned (earlier_first m acks c.requires)
    (λ a r q k. search rules)) in
    ap (λ n. last_reaches c.args.at false (take n acks)) (sym c.if-count-eq0.true ∙ count)

pub returns : goal.returns
returns c =
    let m = c.args.moment in
    let acks = c.args.acks.now in
    let n = c.partition_point-count.result in
    let count : n ≡ front (λ (a : Ack). nat_lt a.moment m) acks =
    point_is_front (λ a. nat_lt a.moment m) acks _ c.partition_point-count.ensures.bound
    (IsPartitionPoint-from_clause (λ a. nat_lt a.moment m) _ _ c.partition_point-count.ensures.partitioned (earlier_first m acks c.requires)
    (λ a r q k. search rules)) in
    let some : 0 < n = omega (arith, c.if-count-eq0.false) in
    let within : n - 1 < length acks = omega (arith, c.if-count-eq0.false, c.partition_point-count.ensures.bound) in
    let none : Ack = record { moment = 0; at = 0 } in
    ap (λ s. nat_le s (get_or acks (n - 1) none).at) c.micros.ensures.same
    ∙ last_of c.args.at n acks none some within
    ∙ ap (λ k. last_reaches c.args.at false (take k acks)) count
