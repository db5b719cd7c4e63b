use Rattle.std.proofs.Common.{refl}
use Rattle.std.specs.Int.{w64, to_be_bytes}
use Rattle.spelling.specs.Grammar.{id_spelling, parts_spelling, keys_spelling, writes_spelling}
use Rattle.spelling.proofs.Put.{five_put, put_same}
use Rattle.spelling.proofs.writing.put_commit.Goals as goal

pub returns-clause-ok : goal.returns-clause-ok
returns-clause-ok c done =
    let committed = c.args.c.now in
    five_put c.args.out.now.items (id_spelling committed.txn) (to_be_bytes w64 committed.at) (parts_spelling committed.parts)
    (keys_spelling committed.reads) (writes_spelling committed.writes)
    c.put_id.new.out.items c.put_u64.new.out.items c.put_parts.new.out.items c.put_keys.new.out.items c.put_writes.new.out.items
    (c.if-not-put_id.ensures.ok refl)
    (put_same (to_be_bytes w64) c.put_id.new.out.items c.put_u64.new.out.items c.micros.result committed.at c.micros.ensures.same
    (c.if-not-put_u64.ensures refl))
    (c.if-not-put_parts.ensures.ok refl) (c.if-not-put_keys.ensures.ok refl) (c.put_writes.ensures.ok done)
