use Rattle.std.proofs.Common.{◌<◌, length, ap, subst, sym}
use Rattle.std.proofs.Math.Logic.{∥∥₁_map}
use Rattle.std.proofs.lemmas.Bool.{cases_lt}
use Rattle.disk.specs.File.{surface}
use Rattle.gatelog.specs.Shown.{disk_of}
use Rattle.protocol.specs.Plan.{carried}
use Rattle.protocol.specs.Step.{stepped, step_within}
use Rattle.memory.specs.Plans.{plan_of}
use Rattle.book.specs.Books.{HasBookRoom, IsBookOf}
use Rattle.shard.specs.Armed.{HasPlace}
use Rattle.shard.specs.Booked.{IsCrowded, stand_of}
use Rattle.shard.specs.Core.{seen, seen_machine}
use Rattle.shard.specs.Logs.{records_in}
use Rattle.shard.specs.On.{step_of}
use Rattle.shard.proofs.Agrees.{known-held}
use Rattle.shard.proofs.Booked.{full-in, in-order, kept-book, room-in, roomy, roomy-without, went}
use Rattle.shard.proofs.Results.{by_step, outbox_of}
use Rattle.shard.proofs.Settling.{durably_settled}
use Rattle.shard.proofs.shard_core.Core.enter.Goals as goal

pub invariant_of-self-in-Some : goal.invariant_of-self-in-Some
unfolding step_within
invariant_of-self-in-Some g c =
    let old = seen c.args.self.now in
    let new = seen_machine c.write_page.new.machine in
    let k = c.args.self.now.machine.state in
    let b = c.in-Some.book in
    let w = went g.D.Disk.keeps_model g.D.Disk.obeys g.D.Disk.file g.D.Disk.clock g.D.Disk.since g.D.Disk.failures g.D.Disk.plan old new _ _ _
    (cases_lt (length b.pages) b.capacity) c.write_page.result c.write_page.ensures.stepped c.write_page.ensures.crowded in
    record {
      replays = ∥∥₁_map c.args.self.now.replays (λ h.
          kept-book c.a_page_is_a_step.ensures g.D.Disk.file old new b c.write_page.new.book c.args.now.now c.args.input.now c.args.step.logged
          (carried (plan_of k.memory.rows c.args.step) k.memory) c.args.step.plan.outbox c.write_page.result (ap (stepped k.memory) c.requires.planned)
          w.0 w.1 w.2 c.write_page.ensures.page c.write_page.ensures.kept
          (subst (λ o. IsBookOf k.setup o (stand_of old)) c.in-Some.is h));
    }

pub returns-in-None-clause-stepped : goal.returns-in-None-clause-stepped
unfolding step_within
returns-in-None-clause-stepped g c room =
    by_step g.D.Disk.keeps_model g.D.Disk.obeys g.D.Disk.file g.D.Disk.clock g.D.Disk.since g.D.Disk.failures g.D.Disk.plan g.met.D.Disk.only_now
    (seen c.args.self.now) (seen_machine c.carry_out.new.self) (step_of (seen c.args.self.now) c.args.now.now c.args.input.now) _ c.carry_out.result
    (ap (stepped c.args.self.now.machine.state.memory) c.requires.planned) c.carry_out.ensures.stepped

pub returns-in-None-clause-settled : goal.returns-in-None-clause-settled
returns-in-None-clause-settled g c =
    let k = c.args.self.now.machine.state in
    durably_settled k c.args.now.now c.args.step c.args.self.now.machine.sound g.D.Disk.keeps_model
    (surface (g.D.Disk.file (disk_of c.carry_out.new.self.gate_log)))
    (records_in (surface (g.D.Disk.file (disk_of c.args.self.now.machine.gate_log))).seen) c.args.input.now c.carry_out.result c.requires.planned
    (outbox_of (seen c.args.self.now) (seen_machine c.carry_out.new.self) c.args.step.logged (carried (plan_of k.memory.rows c.args.step) k.memory)
    c.args.step.plan.outbox c.carry_out.result c.carry_out.ensures.stepped.done)
    c.carry_out.ensures.stepped.written.durable (λ keeps.
    let disk = disk_of c.args.self.now.machine.gate_log in
    known-held _ (surface (g.D.Disk.file disk)) _ c.requires.running (g.met.D.Disk.reads_now disk) (c.args.self.now.machine.agrees keeps))

pub returns-in-None-clause-order : goal.returns-in-None-clause-order
returns-in-None-clause-order g c =
    let old = seen c.args.self.now in
    in-order c.carry_out.result (HasPlace old.gate c.args.step.logged)
    (HasPlace old.gate c.args.step.logged × HasBookRoom old.setup.book c.args.self.now.book)
    (λ place. (place, roomy-without old.setup.book _ c.in-None.is)) c.carry_out.ensures.order

pub returns-in-Some-clause-stepped : goal.returns-in-Some-clause-stepped
unfolding step_within
returns-in-Some-clause-stepped g c room =
    let old = seen c.args.self.now in
    by_step g.D.Disk.keeps_model g.D.Disk.obeys g.D.Disk.file g.D.Disk.clock g.D.Disk.since g.D.Disk.failures g.D.Disk.plan g.met.D.Disk.only_now
    old (seen_machine c.write_page.new.machine) (step_of old c.args.now.now c.args.input.now) _ c.write_page.result
    (ap (stepped c.args.self.now.machine.state.memory) c.requires.planned)
    (c.write_page.ensures.stepped (room-in old.setup _ c.in-Some.book (stand_of old) c.args.self.now.replays c.in-Some.is room))

pub returns-in-Some-clause-crowded : goal.returns-in-Some-clause-crowded
unfolding step_within
returns-in-Some-clause-crowded g c full =
    let old = seen c.args.self.now in
    subst (λ s. IsCrowded old (seen_machine c.write_page.new.machine) s c.write_page.result)
    (sym (ap (stepped c.args.self.now.machine.state.memory) c.requires.planned))
    (c.write_page.ensures.crowded (full-in old.setup _ c.in-Some.book (stand_of old) c.args.self.now.replays c.in-Some.is full))

pub returns-in-Some-clause-settled : goal.returns-in-Some-clause-settled
returns-in-Some-clause-settled g c =
    durably_settled c.args.self.now.machine.state c.args.now.now c.args.step c.args.self.now.machine.sound g.D.Disk.keeps_model
    (surface (g.D.Disk.file (disk_of c.write_page.new.machine.gate_log)))
    (records_in (surface (g.D.Disk.file (disk_of c.args.self.now.machine.gate_log))).seen) c.args.input.now c.write_page.result c.requires.planned
    c.write_page.ensures.out c.write_page.ensures.durable (λ keeps.
    let disk = disk_of c.args.self.now.machine.gate_log in
    known-held _ (surface (g.D.Disk.file disk)) _ c.requires.running (g.met.D.Disk.reads_now disk) (c.args.self.now.machine.agrees keeps))

pub returns-in-Some-clause-order : goal.returns-in-Some-clause-order
returns-in-Some-clause-order g c =
    let old = seen c.args.self.now in
    let b = c.in-Some.book in
    in-order c.write_page.result (HasPlace old.gate c.args.step.logged × (length b.pages < b.capacity))
    (HasPlace old.gate c.args.step.logged × HasBookRoom old.setup.book c.args.self.now.book)
    (λ both. (both.0, roomy old.setup _ b (stand_of old) c.args.self.now.replays c.in-Some.is both.1)) c.write_page.ensures.order
