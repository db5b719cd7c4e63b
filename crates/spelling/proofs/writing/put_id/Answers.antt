use Rattle.std.proofs.Common.{◌++◌, ap, ◌∙◌, refl, append_assoc}
use Rattle.std.specs.Int.{w64, to_be_bytes}
use Rattle.spelling.proofs.Put.{put_same}
use Rattle.spelling.proofs.writing.put_id.Goals as goal

pub returns-then-put_u64-clause-ok : goal.returns-then-put_u64-clause-ok
returns-then-put_u64-clause-ok c done =
    let out = c.args.out.now.items in
    let txn = c.args.txn in
    let first = put_same (to_be_bytes w64) out c.put_u64.new.out.items c.run.result txn.run c.run.ensures.value (c.if-put_u64.ensures refl) in
    put_same (to_be_bytes w64) c.put_u64.new.out.items c.put_u64-then-put_u64.new.out.items c.number.result txn.number c.number.ensures.value
    (c.put_u64-then-put_u64.ensures done)
    ∙ ap (λ l. l ++ to_be_bytes w64 txn.number) first
    ∙ append_assoc out (to_be_bytes w64 txn.run) (to_be_bytes w64 txn.number)
