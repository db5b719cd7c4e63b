use Rattle.std.proofs.Common.{◌≡◌, drop}
use Rattle.rows.specs.States.{has_voted}
use Rattle.rows.proofs.votes.has_voted.Given as goal

abbrev pub invariant-loop-voted : goal.invariant-loop-voted
invariant-loop-voted l = has_voted l.shard l.votes ≡ has_voted l.shard (drop l.voted-index l.votes)
