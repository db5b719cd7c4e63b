use Rattle.pairs.proofs.FieldsBack.{fields_read}
use Rattle.pairs.proofs.commas.fields_are_read.Goals as goal

pub returns : goal.returns
returns c = fields_read
