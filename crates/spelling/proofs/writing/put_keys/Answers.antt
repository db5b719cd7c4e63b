use Rattle.std.proofs.Common.{length, rules}
use Rattle.std.specs.Int.{w16, to_be_bytes}
use Rattle.spelling.specs.Grammar.{key_spelling}
use Rattle.spelling.specs.Limits.{IsKey}
use Rattle.spelling.proofs.Put.{list_more, all_more}
use Rattle.spelling.proofs.writing.put_keys.Goals as goal

pub loop-key-preserved : goal.loop-key-preserved
loop-key-preserved c =
    let keys = c.as_slice-keys.result.now in
    let at = c.loop-key.key-index in
    let x = c.key-item.result in
    record {
      bytes = list_more key_spelling (to_be_bytes w16 (length keys)) keys at x c.args.out.now.items c.loop-key.out.items c.put_key.new.out.items
          c.loop-key-test.true c.key-item.is c.loop-key.invariant.bytes (c.if-not-put_key.ensures.ok (search rules));
      fits = all_more IsKey keys at x c.loop-key-test.true c.key-item.is c.loop-key.invariant.fits (c.if-not-put_key.ensures.fits (search rules));
    }
