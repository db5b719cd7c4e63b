use Rattle.std.proofs.Common.{◌++◌, ◌∷◌, ◌∙◌, ap, rules}
use Rattle.spelling.specs.Grammar.{fields_spelling}
use Rattle.spelling.proofs.Put.{tagged, kind_first}
use Rattle.spelling.proofs.writing.put_record.Goals as goal

pub returns-then-put_u8-clause-ok : goal.returns-then-put_u8-clause-ok
returns-then-put_u8-clause-ok c done =
    let r = c.args.«record».now in
    tagged c.kind_of.result c.args.out.now.items c.put_u8.new.out.items c.put_fields.new.out.items (fields_spelling r)
    (c.put_u8.ensures (search rules)) (c.put_fields.ensures.ok done)
    ∙ ap (λ k. c.args.out.now.items ++ k ∷ fields_spelling r) c.kind_of.ensures
    ∙ ap (λ l. c.args.out.now.items ++ l) (kind_first r)
