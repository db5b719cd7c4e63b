use Rattle.std.proofs.Common.{◌∙◌, [], Some, Ok, ⊎_elim, ap, arith, inl, inr, subst, sym}
use Rattle.std.proofs.lemmas.Bool.{false≢true}
use Rattle.record.specs.Facts.{Facts}
use Rattle.record.specs.declared.record.Record.{Record}
use Rattle.shard.specs.Logs.{and_logged, facts_logged}
use Rattle.gatelog.specs.Shown.{disk_of, gate_at}
use Rattle.gatelog.specs.Frames.{IsFull}
use Rattle.shard.specs.Opened.{HasNotAppended}
use Rattle.shard.proofs.Agrees.{agrees_kept, known-logged}
use Rattle.ledger.specs.Keeps.{IsLasting}
use Rattle.shard.proofs.Openings.{first-lasting, first-learnt, first-sound}
use Rattle.shard.proofs.Showable.{as-showable}
use Rattle.shard.proofs.machine.Machine.begin.Goals as goal

pub invariant_of-result : goal.invariant_of-result
invariant_of-result g c = record {
  agrees = λ keeps.
      ∣ agrees_kept _ _ _ c.in-Ok.state.facts c.in-Ok-append_record.ensures.running.1 (c.in-Ok-append_record.ensures.durable keeps) (known-logged _ _ (
      ap (λ records. facts_logged (and_logged records (Some (Record.Opened c.first.result)))) (c.requires.empty keeps)
      ∙ ap (λ n. facts_logged (and_logged (Ok []) (Some (Record.Opened n)))) c.first.ensures
      ∙ first-learnt ∙ ap (λ (f : Facts). Some f) (sym c.in-Ok.ensures.facts))) ∣₁;
  sound = ∣ first-sound c.args.setup c.in-Ok.state.setup c.in-Ok.state.facts c.in-Ok.state.memory c.fresh_is_sound.ensures c.in-Ok.ensures.setup
      c.in-Ok.ensures.facts c.in-Ok.ensures.empty ∣₁;
  showable = as-showable c.in-Ok.state.facts _ c.in-Ok.state.memory _ c.in-Ok.ensures.facts c.in-Ok.ensures.empty c.fresh_is_showable.ensures;
  lasting = ∣ subst IsLasting (sym c.in-Ok.ensures.facts) first-lasting ∣₁;
}

pub returns-in-Err-append_record-clause-refused : goal.returns-in-Err-append_record-clause-refused
returns-in-Err-append_record-clause-refused g c =
    let old = disk_of c.args.gate_log in
    let left = disk_of c.append_record.new.gate_log in
    let gate = gate_at c.args.gate_log in
    let running = c.requires.running in
    let told = c.in-Err-append_record.ensures in
    let Refused : Record → g.row.D.Denot → Type 0 =
    λ r d. HasNotAppended g.D.Disk.keeps_model g.D.Disk.obeys g.D.Disk.file g.D.Disk.clock g.D.Disk.since g.D.Disk.failures g.D.Disk.plan
    old gate r (IsFull gate r) c.in-Err-append_record.fault d in
    subst (Refused (Record.Opened 1)) (sym c.into_disk-in-Err-append_record.ensures)
    (subst (λ n. Refused (Record.Opened n) left) c.first.ensures
    (record {
      cause = ⊎_elim (λ stopped. absurd (false≢true (sym running ∙ stopped.1)))
          (λ else. ⊎_elim (λ memory. inl memory.0)
          (λ other. ⊎_elim (λ full. inr (inr (full.0, full.2))) (λ device. inr (inl (device.0, device.2))) other) else) told.cause;
      any_moment = λ keeps. c.append_record.ensures.any_moment running keeps;
      begins = λ keeps. c.append_record.ensures.begins running keeps;
      unchanged = ⊎_elim (λ device. inl device) (λ kept. inr kept.2) told.kept;
      tried = told.tried;
      epoch = λ device. omega (arith, c.first.ensures);
      planned = λ obeys never. (told.planned obeys never).1;
      armed = λ call obeys keeps is. (told.armed call running obeys keeps is).1;
    }))
