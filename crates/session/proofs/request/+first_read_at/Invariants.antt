use Rattle.std.proofs.Common.{length}
use Rattle.session.proofs.request.+first_read_at.Given as goal

abbrev pub decreases-first_read_at : goal.decreases-first_read_at
decreases-first_read_at l = length l.taken.now
