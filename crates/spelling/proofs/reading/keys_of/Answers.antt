use Rattle.std.proofs.Common.{◌≤◌, arith}
use Rattle.units.specs.Keys.{key_before}
use Rattle.spelling.specs.Reading.{keys_at, key_at}
use Rattle.spelling.proofs.Loop.{list_refused}
use Rattle.spelling.proofs.reading.keys_of.Goals as goal

pub returns-in-Ok : goal.returns-in-Ok
unfolding keys_at
returns-in-Ok c =
    let few : c.in-Some.count ≤ 128 = omega (arith, c.if-count-gt128.false) in
    list_refused key_before key_at c.args.bytes.now c.in-Some.count c.in-Some.rest.now (c.key_list.new.keys.items, c.in-Ok.rest.now)
    c.in-Some.ensures few c.in-Ok.ensures c.in-Err-from_vec.ensures.1
