use Rattle.std.proofs.Common.{refl}
use Rattle.std.specs.Int.{w64, to_be_bytes}
use Rattle.spelling.specs.Grammar.{id_spelling, shard_spelling, keys_spelling, writes_spelling}
use Rattle.spelling.proofs.Put.{five_put, put_same}
use Rattle.spelling.proofs.writing.put_prepare.Goals as goal

pub returns-clause-ok : goal.returns-clause-ok
returns-clause-ok c done =
    let prepared = c.args.p.now in
    five_put c.args.out.now.items (id_spelling prepared.txn) (shard_spelling prepared.coordinator) (to_be_bytes w64 prepared.at)
    (keys_spelling prepared.reads) (writes_spelling prepared.writes)
    c.put_id.new.out.items c.put_u8.new.out.items c.put_u64.new.out.items c.put_keys.new.out.items c.put_writes.new.out.items
    (c.if-not-put_id.ensures.ok refl)
    (put_same shard_spelling c.put_id.new.out.items c.put_u8.new.out.items c.number.result prepared.coordinator c.number.ensures.same
    (c.if-not-put_u8.ensures refl))
    (put_same (to_be_bytes w64) c.put_u8.new.out.items c.put_u64.new.out.items c.micros.result prepared.at c.micros.ensures.same
    (c.if-not-put_u64.ensures refl))
    (c.if-not-put_keys.ensures.ok refl) (c.put_writes.ensures.ok done)
