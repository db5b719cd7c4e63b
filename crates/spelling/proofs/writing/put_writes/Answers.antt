use Rattle.std.proofs.Common.{length, rules}
use Rattle.std.specs.Int.{w16, to_be_bytes}
use Rattle.spelling.specs.Grammar.{write_spelling}
use Rattle.spelling.specs.Limits.{IsWrite}
use Rattle.spelling.proofs.Put.{list_more, all_more}
use Rattle.spelling.proofs.writing.put_writes.Goals as goal

pub loop-write-preserved : goal.loop-write-preserved
loop-write-preserved c =
    let writes = c.as_slice-writes.result.now in
    let at = c.loop-write.write-index in
    let x = c.write-item.result in
    record {
      bytes = list_more write_spelling (to_be_bytes w16 (length writes)) writes at x c.args.out.now.items c.loop-write.out.items c.put_write.new.out.items
          c.loop-write-test.true c.write-item.is c.loop-write.invariant.bytes (c.if-not-put_write.ensures.ok (search rules));
      fits = all_more IsWrite writes at x c.loop-write-test.true c.write-item.is c.loop-write.invariant.fits (c.if-not-put_write.ensures.fits (search rules));
    }
