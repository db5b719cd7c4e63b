use Rattle.std.proofs.Common.{◌≡◌, ◌∙◌, true, ap, subst}
use Rattle.record.specs.Facts.{learn}
use Rattle.record.specs.declared.record.Record.{Record}
use Rattle.facts.specs.Rules.{follows_facts}
use Rattle.protocol.specs.Rows.{rebuilt}
use Rattle.protocol.specs.Plan.{carried}
use Rattle.memory.specs.Carry.{IsFit}
use Rattle.memory.specs.Plans.{plan_of}
use Rattle.recovery.proofs.Replayed.{can_carry_again, recovered_again, with_record}
use Rattle.recovery.proofs.replaying.replay.Goals as goal

pub carry-requires : goal.carry-requires
carry-requires c =
    let k = c.args.state.now in
    record {
      ready = can_carry_again k c.make_ready.new.self c.in-Ok.plan c.args.logged c.requires.recovered c.requires.follows c.requires.fits
          (subst (λ (r : Record). IsFit k (with_record c.in-Ok.plan r)) c.item.ensures c.in-Ok.ensures.fit)
          c.in-Ok-make_ready.ensures.ready c.ready_plans_can_be_carried.ensures.carriable;
    }

pub returns-in-Ok-make_ready-clause-ok : goal.returns-in-Ok-make_ready-clause-ok
returns-in-Ok-make_ready-clause-ok c =
    let k = c.args.state.now in
    recovered_again k c.make_ready.new.self c.carry.new.self c.in-Ok.plan c.args.logged c.requires.recovered c.laws.ensures
    c.requires.follows c.requires.fits (subst (λ (r : Record). IsFit k (with_record c.in-Ok.plan r)) c.item.ensures c.in-Ok.ensures.fit)
    c.in-Ok-make_ready.ensures.ready c.ready_plans_can_be_carried.ensures.unseen
    (subst (λ (r : Record). carried (plan_of k.memory.rows (with_record c.in-Ok.plan r)) k.memory ≡ rebuilt (learn k.facts r)) c.item.ensures
    c.in-Ok.ensures.memory_after)
    c.carry.ensures.facts c.carry.ensures.stage c.carry.ensures.memory
