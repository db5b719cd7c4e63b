use Rattle.spelling.specs.Reading.{key_at, many_at}
use Rattle.spelling.specs.declared.unread.Unread.TheVariants.{Malformed}
use Rattle.spelling.proofs.Loop.{goes_on, ends, is_done}
use Rattle.spelling.proofs.reading.key_list.Goals as goal

pub returns-in_default : goal.returns-in_default
returns-in_default c = ends key_at Malformed c.loop.keys.items c.args.count c.loop.counter c.loop.rest.now
    (many_at key_at c.args.count c.args.bytes.now) c.loop-test.true c.in_default.ensures c.loop.invariant

pub returns : goal.returns
returns c = is_done key_at c.loop.keys.items c.args.count c.loop.counter c.loop.rest.now (many_at key_at c.args.count c.args.bytes.now)
    c.loop-test.false c.loop.invariant

pub loop-preserved : goal.loop-preserved
loop-preserved c = rw c.in-Ok.ensures.items (goes_on key_at c.loop.keys.items c.args.count c.loop.counter c.loop.rest.now
    c.in-Some.found.0 c.in-Some.found.1.now
    (many_at key_at c.args.count c.args.bytes.now) c.loop-test.true c.in-Some.ensures c.loop.invariant)
