use Rattle.std.proofs.Common.{length}
use Rattle.session.proofs.request.+push_keys_read_at.Given as goal

abbrev pub decreases-push_keys_read_at : goal.decreases-push_keys_read_at
decreases-push_keys_read_at l = length l.taken.now
