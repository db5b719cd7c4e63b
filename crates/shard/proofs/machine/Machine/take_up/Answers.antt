use Rattle.std.proofs.Common.{◌≡◌, ◌∙◌, ◌+◌, [], Some, ap, arith, inl, inr}
use Rattle.protocol.specs.Plan as protocol
use Rattle.protocol.specs.Step.{facts_after}
use Rattle.memory.specs.Plans.{plan_of}
use Rattle.record.specs.declared.record.Record.{Record}
use Rattle.gatelog.specs.Shown.{disk_of, gate_at}
use Rattle.shard.specs.Core.{seen_machine}
use Rattle.shard.proofs.Agrees.{agrees_kept, known-logged}
use Rattle.shard.proofs.Openings.{appended_by, not_appended_at_once, not_appended_by, opened_memory, opening_due}
use Rattle.shard.proofs.machine.Machine.take_up.Goals as goal

pub invariant_of-machine : goal.invariant_of-machine
invariant_of-machine g c = record {
  agrees = λ keeps.
      ∣ agrees_kept _ _ _ c.args.state.facts c.requires.running (c.requires.stands keeps) (known-logged _ _ (c.requires.known keeps)) ∣₁;
  sound = c.requires.sound;
  showable = c.requires.showable;
  lasting = c.requires.lasting;
}

pub carry_out-requires-clause-due : goal.carry_out-requires-clause-due
carry_out-requires-clause-due g c =
    let k = c.args.state in
    let epoch : c.in-Ok.epoch ≡ k.facts.epoch + 1 = c.in-Ok.ensures.0 ∙ ap (λ n. n + 1) c.epoch.ensures in
    opening_due c.opening_keeps_sound.ensures k c.serves-step.result c.last-last.result c.requires.rebuilt c.requires.sound c.requires.showable
    c.last-last.ensures
    c.serves-step.ensures.fit
    (c.serves-step.ensures.plan ∙ ap (λ n. record {
      wounded = [];
      change = protocol.Keeps;
      logged = Some (Record.Opened n);
      last =
          c.last-last.result;
      outbox = [];
    }) epoch)

pub returns-clause-memory : goal.returns-clause-memory
returns-clause-memory g c =
    let k = c.args.state in
    c.in-Ok-carry_out.ensures.stepped.done.2.1
    ∙ opened_memory k (plan_of k.memory.rows c.serves-step.result) c.last-last.result _ c.requires.rebuilt c.last-last.ensures c.serves-step.ensures.plan

pub returns-in-Err-carry_out-clause-refused : goal.returns-in-Err-carry_out-clause-refused
returns-in-Err-carry_out-clause-refused g c =
    let k = c.args.state in
    let epoch : c.in-Ok.epoch ≡ k.facts.epoch + 1 = c.in-Ok.ensures.0 ∙ ap (λ n. n + 1) c.epoch.ensures in
    let logged : c.serves-step.result.logged ≡ Some (Record.Opened (k.facts.epoch + 1)) =
    ap (λ (p : protocol.Plan). p.logged) c.serves-step.ensures.plan ∙ ap (λ n. Some (Record.Opened n)) epoch in
    not_appended_by g.D.Disk.keeps_model g.D.Disk.obeys g.D.Disk.file g.D.Disk.clock g.D.Disk.since g.D.Disk.failures g.D.Disk.plan
    _ (seen_machine c.carry_out.new.self) (Record.Opened (k.facts.epoch + 1)) _ _ _ _ c.in-Err-carry_out.fault _ c.stop-in-Err-carry_out.ensures
    logged c.requires.running (omega (arith, c.in-Ok.ensures.1, c.epoch.ensures)) (λ full. inr full) c.in-Err-carry_out.ensures.stepped

pub returns-clause-appended : goal.returns-clause-appended
returns-clause-appended g c =
    let k = c.args.state in
    let epoch : c.in-Ok.epoch ≡ k.facts.epoch + 1 = c.in-Ok.ensures.0 ∙ ap (λ n. n + 1) c.epoch.ensures in
    let logged : c.serves-step.result.logged ≡ Some (Record.Opened (k.facts.epoch + 1)) =
    ap (λ (p : protocol.Plan). p.logged) c.serves-step.ensures.plan ∙ ap (λ n. Some (Record.Opened n)) epoch in
    appended_by g.D.Disk.keeps_model g.D.Disk.obeys g.D.Disk.file g.D.Disk.clock g.D.Disk.since g.D.Disk.failures g.D.Disk.plan
    _ (seen_machine c.carry_out.new.self) (Record.Opened (k.facts.epoch + 1)) _ _ logged c.requires.running c.in-Ok-carry_out.ensures.stepped.done.1
    (omega (arith, c.in-Ok.ensures.1, c.epoch.ensures)) c.in-Ok-carry_out.ensures.stepped.written

pub returns-clause-slot : goal.returns-clause-slot
returns-clause-slot g c = c.in-Ok-carry_out.ensures.stepped.written.slot

pub returns-clause-setup : goal.returns-clause-setup
returns-clause-setup g c = c.in-Ok-carry_out.ensures.stepped.written.setup

pub returns-clause-facts : goal.returns-clause-facts
returns-clause-facts g c =
    let k = c.args.state in
    let epoch : c.in-Ok.epoch ≡ k.facts.epoch + 1 = c.in-Ok.ensures.0 ∙ ap (λ n. n + 1) c.epoch.ensures in
    let logged : c.serves-step.result.logged ≡ Some (Record.Opened (k.facts.epoch + 1)) =
    ap (λ (p : protocol.Plan). p.logged) c.serves-step.ensures.plan ∙ ap (λ n. Some (Record.Opened n)) epoch in
    c.in-Ok-carry_out.ensures.stepped.done.2.0 ∙ ap (facts_after k.facts) logged

pub returns-in-Err-clause-refused : goal.returns-in-Err-clause-refused
returns-in-Err-clause-refused g c =
    not_appended_at_once g.D.Disk.keeps_model g.D.Disk.obeys g.D.Disk.file g.D.Disk.clock g.D.Disk.since g.D.Disk.failures g.D.Disk.plan
    g.met.D.Disk.only_now (disk_of c.args.gate_log) _ (gate_at c.args.gate_log) _ _ _ c.into_disk.ensures c.in-Err.ensures.0
    (inl (omega (arith, c.in-Err.ensures.1, c.epoch.ensures))) c.requires.stands
