use Rattle.std.proofs.Common.{Result, Ok, Err, IfErr, sym, ap, refl}
use Rattle.units.specs.declared.fault.Fault.{Fault}
use Rattle.protocol.specs.Step.{plan_input, step_within}
use Rattle.memory.specs.Kept.{IsPlanned, start_of}
use Rattle.memory.specs.declared.plan.Step.{Step}
use Rattle.shard.specs.Core.{seen_machine}
use Rattle.shard.specs.Logs.{items_of}
use Rattle.shard.specs.On.{HasStepped, step_of}
use Rattle.shard.proofs.Results.{refused, refusal_is_no_device}
use Rattle.shard.proofs.machine.Machine.plan.Goals as goal

pub returns-clause-refused : goal.returns-clause-refused
unfolding step_within
returns-clause-refused g c = by_result c.plan_due.result c.plan_due.ensures.planned
  where
    by_result : (r : Result Step Fault)
        → IsPlanned c.args.self.now.state (plan_input c.args.self.now.state.setup (start_of c.args.self.now.state) c.args.now.now c.args.input.now) r
        → IfErr r (λ fault. HasStepped g.D.Disk.keeps_model g.D.Disk.obeys g.D.Disk.file g.D.Disk.clock g.D.Disk.since g.D.Disk.failures g.D.Disk.plan
        (seen_machine c.args.self.now) (seen_machine c.args.self.now) (step_of (seen_machine c.args.self.now) c.args.now.now c.args.input.now) (Err fault))
    by_result (Ok p) planned = tt
    by_result (Err fault) planned =
        let k = c.args.self.now.state in
        let planning = plan_input k.setup (start_of k) c.args.now.now c.args.input.now in
        refused g.D.Disk.keeps_model g.D.Disk.obeys g.D.Disk.file g.D.Disk.clock g.D.Disk.since g.D.Disk.failures g.D.Disk.plan g.met.D.Disk.only_now
        (seen_machine c.args.self.now) (sym c.if-is_stopped.ensures.value)
        (λ keeps image may. ap items_of (c.if-is_stopped.ensures.stands refl keeps image may))
        k.setup k.facts k.memory refl refl refl planning fault
        (refusal_is_no_device planning fault (c.own_refusals.ensures k.setup (start_of k) c.args.now.now c.args.input.now) planned) planned
