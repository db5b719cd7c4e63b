use Rattle.std.proofs.Common.{◌≡◌, ◌+◌, true, refl, rules}
use Rattle.world.specs.Lawful.{may_happen}
use Rattle.lives.specs.declared.run.Run.{Run}
use Rattle.lives.proofs.Happened.{acts_may, happened}
use Rattle.lives.proofs.run.Run.take.Goals as goal

pub returns-in-Ok : goal.returns-in-Ok
returns-in-Ok c w at h steady =
    let e = c.args.event.now in
    let number = c.args.number in
    let yes : c.may_act.result ≡ true = cc in
    let may : may_happen w e ≡ true = search rules in
    let mid : Run = c.act.new.self in
    let new : Run = record {
      sessions = mid.sessions;
      shards = mid.shards;
      output = record {
        bag = mid.output.bag;
        told = mid.output.told;
        lines =
            mid.output.lines;
        event = number + 1;
      };
      time = e.time;
    } in
    happened w e number at mid new c.in-Ok.reply may (c.in-Ok.ensures e.time w h steady
    (acts_may w e number at may)) refl refl refl refl refl refl refl
