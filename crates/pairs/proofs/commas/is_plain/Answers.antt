use Rattle.std.proofs.Common.{◌∙◌}
use Rattle.pairs.proofs.FieldsBack.{a_text, no_text}
use Rattle.pairs.proofs.commas.is_plain.Goals as goal

pub returns-in-Ok : goal.returns-in-Ok
returns-in-Ok c = c.show_themselves.ensures ∙ a_text c.args.bytes.now c.in-Ok.ensures.cases.1

pub returns-in-Err : goal.returns-in-Err
returns-in-Err c = no_text c.args.bytes.now c.in-Err.ensures.cases.0
