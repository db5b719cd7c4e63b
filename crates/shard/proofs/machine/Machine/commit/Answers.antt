use Rattle.std.proofs.Common.{◌≡◌, ◌∙◌, arith, inl, option_map, Option, Some, None, refl, sym, ap, subst}
use Rattle.std.proofs.Math.Logic.{∥∥₁_map}
use Rattle.disk.specs.File.{surface}
use Rattle.frames.specs.Placed.{Placed}
use Rattle.gatelog.specs.Shown.{disk_of, gate_at}
use Rattle.record.specs.Facts.{learn}
use Rattle.record.specs.declared.record.Record.{Record}
use Rattle.ledger.specs.Keeps.{IsLasting}
use Rattle.protocol.specs.Plan.{carried}
use Rattle.protocol.specs.Step.{facts_after}
use Rattle.memory.specs.Carry.{IsCarriable}
use Rattle.memory.specs.Plans.{plan_of}
use Rattle.shard.specs.Core.{seen_machine}
use Rattle.shard.specs.Logs.{and_logged, records_in}
use Rattle.shard.specs.Staged.{IsPlaced, seen_unstaged, step_staged, unstaged}
use Rattle.shard.proofs.Agrees.{IsKnown, agrees_kept, agrees_refused, agrees_still, known-held, known-more}
use Rattle.shard.proofs.Carried.{can_carry, lasting_then, memory_after, facts_then, sound_then}
use Rattle.shard.proofs.Commits.{sound-as}
use Rattle.shard.proofs.Showable.{as-showable}
use Rattle.shard.proofs.Results.{served_as, logged_as}
use Rattle.shard.proofs.machine.Machine.commit.Goals as goal

pub carry-requires : goal.carry-requires
carry-requires g c =
    let ready = c.args.self.now.state in
    let k = unstaged ready c.args.staged in
    let s = step_staged c.args.staged in
    let none : s.logged ≡ None = ap (option_map (λ (e : Placed). e.item)) c.in_default.is in
    record {
      ready = subst (λ (l : Option Record). IsCarriable ready (record { plan = s.plan; logged = l })) none
          (can_carry k ready s c.requires.due c.requires.memory c.ready_plans_can_be_carried.ensures.carriable);
    }

-- the record of the step, as it was logged
pub carry-requires-in-Ok : goal.carry-requires-in-Ok
carry-requires-in-Ok g c =
    let ready = c.args.self.now.state in
    let k = unstaged ready c.args.staged in
    let s = step_staged c.args.staged in
    let own : s.logged ≡ Some c.note.result =
    ap (option_map (λ (e : Placed). e.item)) c.in-Some.is ∙ ap (λ (r : Record). Some r) (sym (c.note.ensures ∙ c.in-Ok.ensures.item)) in
    record {
      ready = subst (λ (l : Option Record). IsCarriable ready (record { plan = s.plan; logged = l })) own
          (can_carry k ready s c.requires.due c.requires.memory c.ready_plans_can_be_carried.ensures.carriable);
    }

pub invariant_of-self : goal.invariant_of-self
invariant_of-self g c =
    let ready = c.args.self.now.state in
    let k = unstaged ready c.args.staged in
    let s = step_staged c.args.staged in
    let none : s.logged ≡ None = ap (option_map (λ (e : Placed). e.item)) c.in_default.is in
    let facts = facts_then k ready s c.requires.due c.requires.memory c.carry.new.self.facts
    (c.carry.ensures.facts ∙ ap (facts_after ready.facts) (sym none)) in
    let memory = memory_after k ready s c.requires.due c.requires.memory c.ready_plans_can_be_carried.ensures.unseen c.carry.new.self.memory
    (c.carry.ensures.memory ∙ ap (λ (l : Option Record). carried (plan_of ready.memory.rows (record { plan = s.plan; logged = l })) ready.memory) (sym none))
    in
    record {
      agrees = λ keeps.
          agrees_still _ _ _ _ ready.facts c.carry.new.self.facts refl refl (facts ∙ ap (facts_after ready.facts) none) (c.args.self.now.agrees keeps);
      sound = sound_then k ready s c.requires.due c.requires.memory _ _ _ c.carry.ensures.setup facts memory;
      showable = as-showable c.carry.new.self.facts _ c.carry.new.self.memory _ facts memory c.requires.due.showable;
      lasting = lasting_then k ready s c.requires.due c.requires.memory c.lasting_follows.ensures c.carry.new.self.facts facts c.args.self.now.lasting;
    }

pub returns-in_default-clause-stepped : goal.returns-in_default-clause-stepped
returns-in_default-clause-stepped g c =
    let ready = c.args.self.now.state in
    let k = unstaged ready c.args.staged in
    let s = step_staged c.args.staged in
    let none : s.logged ≡ None = ap (option_map (λ (e : Placed). e.item)) c.in_default.is in
    let facts = facts_then k ready s c.requires.due c.requires.memory c.carry.new.self.facts
    (c.carry.ensures.facts ∙ ap (facts_after ready.facts) (sym none)) in
    let memory = memory_after k ready s c.requires.due c.requires.memory c.ready_plans_can_be_carried.ensures.unseen c.carry.new.self.memory
    (c.carry.ensures.memory ∙ ap (λ (l : Option Record). carried (plan_of ready.memory.rows (record { plan = s.plan; logged = l })) ready.memory) (sym none))
    in
    served_as g.D.Disk.keeps_model g.D.Disk.obeys g.D.Disk.file g.D.Disk.clock g.D.Disk.since g.D.Disk.failures g.D.Disk.plan g.met.D.Disk.only_now
    (seen_unstaged (seen_machine c.args.self.now) c.args.staged) c.requires.running c.requires.stands c.carry.new.self.setup c.carry.new.self.facts
    c.carry.new.self.memory s.logged (carried (plan_of k.memory.rows s) k.memory) s.plan.outbox _ none c.carry.ensures.outbox c.carry.ensures.setup
    (facts ∙ ap (facts_after ready.facts) none) memory

pub invariant_of-self-in-Ok : goal.invariant_of-self-in-Ok
invariant_of-self-in-Ok g c =
    let ready = c.args.self.now.state in
    let k = unstaged ready c.args.staged in
    let s = step_staged c.args.staged in
    let done = c.carry-in-Ok in
    let item : s.logged ≡ Some c.in-Some.frame.item = ap (option_map (λ (e : Placed). e.item)) c.in-Some.is in
    let own : s.logged ≡ Some c.note.result = item ∙ ap (λ (r : Record). Some r) (sym (c.note.ensures ∙ c.in-Ok.ensures.item)) in
    let facts = facts_then k ready s c.requires.due c.requires.memory done.new.self.facts (done.ensures.facts ∙ ap (facts_after ready.facts) (sym own)) in
    let memory = memory_after k ready s c.requires.due c.requires.memory c.ready_plans_can_be_carried.ensures.unseen done.new.self.memory
    (done.ensures.memory ∙ ap (λ (l : Option Record). carried (plan_of ready.memory.rows (record { plan = s.plan; logged = l })) ready.memory) (sym own)) in
    record {
      agrees = λ keeps.
          let disk = disk_of c.args.self.now.gate_log in
          let before = records_in (surface (g.D.Disk.file disk)).seen in
          let learnt : done.new.self.facts ≡ learn ready.facts c.in-Some.frame.item = facts ∙ ap (facts_after ready.facts) item in
          ∥∥₁_map (known-held _ (surface (g.D.Disk.file disk)) ready.facts c.requires.running (g.met.D.Disk.reads_now disk) (c.args.self.now.agrees keeps))
          (λ known.
          agrees_kept _ _ _ done.new.self.facts c.in-Ok.ensures.running (c.in-Ok.ensures.durable keeps)
          (subst (IsKnown (and_logged before (Some c.in-Some.frame.item))) (sym learnt)
          (known-more c.alike_stays.ensures before ready.facts c.in-Some.frame.item known)));
      sound = sound_then k ready s c.requires.due c.requires.memory _ _ _ done.ensures.setup facts memory;
      showable = as-showable done.new.self.facts _ done.new.self.memory _ facts memory c.requires.due.showable;
      lasting = lasting_then k ready s c.requires.due c.requires.memory c.lasting_follows.ensures done.new.self.facts facts c.args.self.now.lasting;
    }

-- what was taken in is taken back
pub invariant_of-self-in-Err : goal.invariant_of-self-in-Err
invariant_of-self-in-Err g c =
    let ready = c.args.self.now.state in
    let k = unstaged ready c.args.staged in
    let disk = disk_of c.args.self.now.gate_log in
    let memory : c.undo.new.self.memory ≡ k.memory = c.undo.ensures.memory k.memory c.requires.admits c.requires.memory.memory in
    record {
      agrees = λ keeps.
          agrees_refused g.D.Disk.file g.D.Disk.clock g.D.Disk.since g.met.D.Disk.counts_now disk (disk_of c.append_staged.new.gate_log) _ _
          ready.facts c.undo.new.self.facts c.in-Some.frame.item c.requires.running (g.met.D.Disk.reads_now disk) c.undo.ensures.facts
          (inl c.in-Err.ensures.cause.2) (c.in-Err.ensures.any_moment keeps) (c.args.self.now.agrees keeps);
      sound = sound-as ready.setup _ ready.facts _ k.memory _ c.undo.ensures.setup c.undo.ensures.facts memory c.requires.sound;
      showable = as-showable c.undo.new.self.facts _ c.undo.new.self.memory _ c.undo.ensures.facts memory c.requires.showable;
      lasting = subst (λ f. ∥ IsLasting f ∥₁) (sym c.undo.ensures.facts) c.args.self.now.lasting;
    }

pub returns-in-Ok-clause-stepped : goal.returns-in-Ok-clause-stepped
returns-in-Ok-clause-stepped g c =
    let ready = c.args.self.now.state in
    let k = unstaged ready c.args.staged in
    let s = step_staged c.args.staged in
    let done = c.carry-in-Ok in
    let a = c.in-Ok.ensures in
    let item : s.logged ≡ Some c.in-Some.frame.item = ap (option_map (λ (e : Placed). e.item)) c.in-Some.is in
    let own : s.logged ≡ Some c.note.result = item ∙ ap (λ (r : Record). Some r) (sym (c.note.ensures ∙ a.item)) in
    let facts = facts_then k ready s c.requires.due c.requires.memory done.new.self.facts (done.ensures.facts ∙ ap (facts_after ready.facts) (sym own)) in
    let memory = memory_after k ready s c.requires.due c.requires.memory c.ready_plans_can_be_carried.ensures.unseen done.new.self.memory
    (done.ensures.memory ∙ ap (λ (l : Option Record). carried (plan_of ready.memory.rows (record { plan = s.plan; logged = l })) ready.memory) (sym own)) in
    let gate = gate_at c.args.self.now.gate_log in
    let placed : IsPlaced g.D.Disk.obeys (g.D.Disk.has_room (disk_of c.args.self.now.gate_log)) gate (Some c.in-Some.frame) =
    subst (IsPlaced g.D.Disk.obeys (g.D.Disk.has_room (disk_of c.args.self.now.gate_log)) gate) c.in-Some.is c.requires.placed in
    logged_as g.D.Disk.keeps_model g.D.Disk.obeys g.D.Disk.file g.D.Disk.clock g.D.Disk.since g.D.Disk.failures g.D.Disk.plan g.met.D.Disk.only_now
    (seen_unstaged (seen_machine c.args.self.now) c.args.staged) c.requires.running c.requires.stands _ c.in-Some.frame.item s.logged
    (carried (plan_of k.memory.rows s) k.memory) s.plan.outbox _ item done.ensures.outbox
    done.ensures.setup (facts ∙ ap (facts_after ready.facts) item) memory a.slot a.running a.failures_stay
    (λ run keeps. a.any_moment keeps) (λ run keeps. a.begins keeps) a.durable a.read (a.gate, omega (arith, ap (λ n. n) a.gate, placed.2)) placed.1
    (λ obey never. (a.planned obey never).0) (λ call run obey keep is. (a.armed call obey keep is).0)
