use Rattle.std.proofs.Common.{length}
use Rattle.versions.proofs.head.+shared_len.Given as goal

abbrev pub decreases-shared_len : goal.decreases-shared_len
decreases-shared_len l = length l.first.now
