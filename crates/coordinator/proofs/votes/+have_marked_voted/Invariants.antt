use Rattle.coordinator.proofs.votes.+have_marked_voted.Given as goal

abbrev pub decreases-have_marked_voted : goal.decreases-have_marked_voted
decreases-have_marked_voted l = l.bits
