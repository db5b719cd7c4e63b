use Rattle.pairs.proofs.ReadBack.{are_read}
use Rattle.pairs.proofs.lines.lines_are_read.Goals as goal

pub returns : goal.returns
returns c = are_read
