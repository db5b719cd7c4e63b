use Rattle.std.proofs.Common.{length}
use Rattle.coordinator.proofs.votes.+greatest_vote.Given as goal

abbrev pub decreases-greatest_vote : goal.decreases-greatest_vote
decreases-greatest_vote l = length l.votes.now
