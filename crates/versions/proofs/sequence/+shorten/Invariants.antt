use Rattle.std.proofs.Common.{length}
use Rattle.versions.proofs.sequence.+shorten.Given as goal

abbrev pub decreases-shorten : goal.decreases-shorten
decreases-shorten l = length l.pieces.now.items
