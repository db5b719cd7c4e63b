use Rattle.spelling.proofs.Again.{none_begins_another}
use Rattle.spelling.proofs.writing.none_begins_another.Goals as goal

pub returns : goal.returns
returns c = none_begins_another
