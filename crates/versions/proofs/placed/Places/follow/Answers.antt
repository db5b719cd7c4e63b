use Rattle.std.proofs.Common.{arith}
use Rattle.versions.proofs.Orders.{orders_next, others_behind}
use Rattle.versions.proofs.placed.Places.follow.Goals as goal

pub loop-at-init : goal.loop-at-init
loop-at-init c = record {
  known = c.requires.known;
  behind = c.requires.behind;
  within = c.requires.longer;
  room = omega arith;
}

pub loop-at-preserved : goal.loop-at-preserved
loop-at-preserved c =
    let i = c.loop-at.invariant in
    let done = c.place_from.ensures in
    record {
      known = orders_next c.args.installs.now c.loop-at.at c.loop-at-test.true c.args.horizon c.loop-at.self c.place_from.new.places i.known i.behind done.items
          done.within done.heads done.len done.in_time;
      behind = others_behind c.args.installs.now c.loop-at.at c.loop-at-test.true i.behind;
      within = omega (arith, c.loop-at-test.true);
      room = omega (arith, done.room, i.room);
    }
