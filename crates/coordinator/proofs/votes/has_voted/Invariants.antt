use Rattle.std.specs.List.{list_any}
use Rattle.std.proofs.Common.{◌≡◌, drop, nat_eq}
use Rattle.coordinator.proofs.votes.has_voted.Given as goal

abbrev pub invariant-loop-vote : goal.invariant-loop-vote
invariant-loop-vote l = list_any (λ v. nat_eq v.shard l.number) l.votes ≡ list_any (λ v. nat_eq v.shard l.number) (drop l.vote-index l.votes)
