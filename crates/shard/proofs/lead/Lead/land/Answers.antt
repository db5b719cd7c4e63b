use Rattle.std.proofs.Common.{◌∙◌, ℕ, refl, ap}
use Rattle.disk.specs.File.{surface}
use Rattle.gatelog.specs.Frames.{end_from}
use Rattle.gatelog.specs.Shown.{disk_of}
use Rattle.shard.proofs.Groups.{ahead_landed}
use Rattle.shard.proofs.lead.Lead.land.Goals as goal

pub invariant_of-result : goal.invariant_of-result
invariant_of-result g c =
    let disk = disk_of c.args.self.gate_log in
    record {
      agrees = λ keeps.
          ahead_landed _ (surface (g.D.Disk.file disk)) _ c.args.self.group.items _ c.in-Ok.ensures.running (g.met.D.Disk.reads_now disk)
          (c.in-Ok.ensures.durable keeps) (c.args.self.agrees keeps);
      sound = c.args.self.sound;
      showable = c.args.self.showable;
      lasting = c.args.self.lasting;
    }

pub returns-in-Ok-clause-written : goal.returns-in-Ok-clause-written
returns-in-Ok-clause-written g c = record {
  failures_stay = c.append_group.ensures.failures_stay;
  any_moment = c.append_group.ensures.any_moment;
  begins = c.append_group.ensures.begins;
}

pub returns-in-Ok-clause-state : goal.returns-in-Ok-clause-state
returns-in-Ok-clause-state g c = (
  refl,
  c.in-Ok.ensures.running,
  c.in-Ok.ensures.gate ∙ ap (λ (n : ℕ). end_from n c.args.self.group.items) c.args.self.placed,
  c.append_group.ensures.slot,
)

pub returns-in-Err-clause-failed : goal.returns-in-Err-clause-failed
returns-in-Err-clause-failed g c = (
  refl,
  record {
    failures_stay = c.append_group.ensures.failures_stay;
    any_moment = c.append_group.ensures.any_moment;
    begins = c.append_group.ensures.begins;
  },
  c.in-Err.ensures.cause.1,
)
