use Rattle.std.proofs.Common.{◌≡◌, ◌∙◌, Option, sym, ap, subst}
use Rattle.disk.specs.File.{File, surface}
use Rattle.gatelog.specs.Shown.{disk_of}
use Rattle.record.specs.Facts.{Facts}
use Rattle.record.specs.declared.record.Record.{Record}
use Rattle.protocol.specs.Rows.{Memory}
use Rattle.ledger.specs.Keeps.{IsLasting}
use Rattle.memory.specs.Carry.{Admits, asker}
use Rattle.memory.specs.declared.plan.Step.{Step}
use Rattle.shard.specs.Due.{IsDue}
use Rattle.shard.specs.Logs.{records_in, KeepsRecords}
use Rattle.shard.specs.Staged.{step_staged, unstaged, without_entrant}
use Rattle.shard.specs.declared.staging.StagedStep.{StagedStep}
use Rattle.shard.proofs.Agrees.{agrees_still}
use Rattle.shard.proofs.Commits.{due-as, has-memory, sound-as, taken-or-kept, without-taken}
use Rattle.shard.proofs.Showable.{as-showable}
use Rattle.shard.proofs.machine.Machine.stage.Goals as goal

pub invariant_of-self-2 : goal.invariant_of-self-2
invariant_of-self-2 g c =
    let k = c.args.self.now.state in
    let now = c.make_ready.new.self in
    let held = taken-or-kept k now c.args.step c.make_ready.result c.requires.due c.args.self.now.sound c.args.self.now.showable
    c.make_ready.ensures.ready c.make_ready.ensures.kept in
    record {
      agrees = λ keeps.
          agrees_still _ _ _ _ k.facts now.facts c.stage_record.ensures.same.1 (ap surface c.stage_record.ensures.file) held.0 (c.args.self.now.agrees keeps);
      sound = held.1;
      showable = held.2;
      lasting = subst (λ (f : Facts). ∥ IsLasting f ∥₁) (sym held.0) c.args.self.now.lasting;
    }

pub returns-in-Ok-make_ready-clause-staged : goal.returns-in-Ok-make_ready-clause-staged
returns-in-Ok-make_ready-clause-staged g c =
    let k = c.args.self.now.state in
    let now = c.make_ready.new.self in
    let step = c.args.step in
    let staged : StagedStep = record { plan = step.plan; frame = c.in-Ok.frame; ready = c.in-Ok-make_ready.ready } in
    let at = c.in-Ok.ensures in
    let made = c.in-Ok-make_ready.ensures.ready in
    let admits = c.in-Ok-make_ready.ensures.admits in
    let who = asker step.plan.change in
    let taken = c.in-Ok-make_ready.ready.admitted in
    let left : Memory = without_entrant now.memory who taken in
    let back : left ≡ k.memory = without-taken k.memory now.memory who taken admits made.memory in
    let is : step_staged staged ≡ step = ap (λ (l : Option Record). record { plan = step.plan; logged = l }) at.item in
    record {
      step_is = is;
      ready = record {
        running = at.same.1 ∙ c.requires.running;
        stands = λ keeps.
            subst (λ (f : File). KeepsRecords (surface f) (records_in (surface f).seen)) (sym at.file) (c.requires.stands keeps);
        due = subst (λ (s : Step). IsDue (unstaged now staged) s) (sym is)
            (due-as k (unstaged now staged) step made.setup made.facts back c.requires.due);
        memory = has-memory k now step taken made admits;
        admits = subst (λ (m : Memory). Admits m.rows who taken) (sym back) admits;
        may_undo = c.in-Ok-make_ready.ensures.undo;
        sound = sound-as k.setup now.setup k.facts now.facts k.memory left made.setup made.facts back c.args.self.now.sound;
        showable = as-showable now.facts k.facts left k.memory made.facts back c.args.self.now.showable;
        placed = at.placed;
      };
      same = λ i. record {
        disk = disk_of c.stage_record.new.gate_log;
        gate = at.same.0 i;
        slot = at.same.2 i;
        stopped = at.same.1 i;
        setup = made.setup i;
        facts = made.facts i;
        memory = back i;
      };
      file_same = at.file;
      plan_same = at.plan;
      failures_stay = at.failures_stay;
      time = at.time;
    }
