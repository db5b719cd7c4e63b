use Rattle.std.proofs.Common.{refl}
use Rattle.std.specs.Int.{w64, to_be_bytes}
use Rattle.spelling.specs.Grammar.{id_spelling, parts_spelling}
use Rattle.spelling.proofs.Put.{three_put, put_same}
use Rattle.spelling.proofs.writing.put_settled.Goals as goal

pub returns-clause-ok : goal.returns-clause-ok
returns-clause-ok c done =
    three_put c.args.out.now.items (id_spelling c.args.txn) (to_be_bytes w64 c.args.at) (parts_spelling c.args.parts)
    c.put_id.new.out.items c.put_u64.new.out.items c.put_parts.new.out.items
    (c.if-not-put_id.ensures.ok refl)
    (put_same (to_be_bytes w64) c.put_id.new.out.items c.put_u64.new.out.items c.micros.result c.args.at c.micros.ensures.same
    (c.if-not-put_u64.ensures refl))
    (c.put_parts.ensures.ok done)
