use Rattle.std.proofs.Common.{◌≤◌, arith}
use Rattle.units.specs.Keys.{write_before}
use Rattle.spelling.specs.Reading.{writes_at, write_at}
use Rattle.spelling.proofs.Loop.{list_refused}
use Rattle.spelling.proofs.reading.writes_of.Goals as goal

pub returns-in-Ok : goal.returns-in-Ok
unfolding writes_at
returns-in-Ok c =
    let few : c.in-Some.count ≤ 128 = omega (arith, c.if-count-gt128.false) in
    list_refused write_before write_at c.args.bytes.now c.in-Some.count c.in-Some.rest.now (c.write_list.new.writes.items, c.in-Ok.rest.now)
    c.in-Some.ensures few c.in-Ok.ensures c.in-Err-from_vec.ensures.1
