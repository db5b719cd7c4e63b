use Rattle.spelling.specs.Reading.{write_at, many_at}
use Rattle.spelling.proofs.Loop.{goes_on, ends, is_done}
use Rattle.spelling.proofs.reading.write_list.Goals as goal

pub returns-in-Err : goal.returns-in-Err
returns-in-Err c = ends write_at c.in-Err.unread c.loop.writes.items c.args.count c.loop.counter c.loop.rest.now
    (many_at write_at c.args.count c.args.bytes.now) c.loop-test.true c.in-Err.ensures c.loop.invariant

pub returns : goal.returns
returns c = is_done write_at c.loop.writes.items c.args.count c.loop.counter c.loop.rest.now
    (many_at write_at c.args.count c.args.bytes.now) c.loop-test.false c.loop.invariant

pub loop-preserved : goal.loop-preserved
loop-preserved c = rw c.in-Ok-push.ensures.items (goes_on write_at c.loop.writes.items c.args.count c.loop.counter c.loop.rest.now _ _
    (many_at write_at c.args.count c.args.bytes.now) c.loop-test.true c.in-Ok.ensures c.loop.invariant)
