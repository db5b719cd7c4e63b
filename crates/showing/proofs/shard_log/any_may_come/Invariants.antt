-- What was read may not come.
use Rattle.std.specs.List.{list_any}
use Rattle.std.proofs.Common.{◌≡◌, drop}
use Rattle.showing.specs.Histories.{may_come_by}
use Rattle.showing.proofs.shard_log.any_may_come.Given as goal

abbrev pub invariant-loop-write : goal.invariant-loop-write
invariant-loop-write l =
    list_any (λ t. may_come_by l.at t.standing) l.told ≡ list_any (λ t. may_come_by l.at t.standing) (drop l.write-index l.told)
