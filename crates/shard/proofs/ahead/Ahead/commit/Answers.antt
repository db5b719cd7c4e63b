use Rattle.std.proofs.Common.{◌∙◌, refl, ap, sym, subst}
use Rattle.std.specs.Prelude.{take}
use Rattle.std.proofs.Math.Logic.{∥∥₁_map}
use Rattle.memory.specs.Kept.{Kept}
use Rattle.shard.specs.Core.{seen_machine}
use Rattle.shard.specs.Gathered.{seen_ahead}
use Rattle.shard.specs.Groups.{IsSince}
use Rattle.shard.proofs.Groups.{halted_all, stepped_all}
use Rattle.shard.proofs.ahead.Ahead.commit.Goals as goal

pub invariant_of-result : goal.invariant_of-result
invariant_of-result g c = record {
  replays = ∥∥₁_map c.args.self.bookless (λ h. ap (λ (k : Kept). k.setup.book) c.in-Ok.ensures.state.0 ∙ h);
}

pub returns-in-Ok-clause-stepped : goal.returns-in-Ok-clause-stepped
returns-in-Ok-clause-stepped g c from arrivals h =
    let at = c.in-Ok.ensures in
    stepped_all g.D.Disk.keeps_model g.D.Disk.file g.D.Disk.clock g.D.Disk.since g.D.Disk.failures from (seen_ahead c.args.self) arrivals h
    c.args.self.lead.stands (seen_machine c.in-Ok.machine) c.args.self.outboxes.items at.written at.durable at.read
    (ap (λ (k : Kept). k.setup) at.state.0) (ap (λ (k : Kept). k.facts) at.state.0) (ap (λ (k : Kept). k.memory) at.state.0)
    at.state.1 at.state.2 at.state.3 refl c.args.self.since refl

pub invariant_of-result-in-Err : goal.invariant_of-result-in-Err
invariant_of-result-in-Err g c = record {
  since = subst (λ (k : Kept). ∥ IsSince c.args.self.served c.args.self.versions k.facts k.memory ∥₁) (sym c.in-Err.ensures.failed.0) c.args.self.since;
}

pub returns-in-Err-clause-halted : goal.returns-in-Err-clause-halted
returns-in-Err-clause-halted g c from arrivals h =
    let at = c.in-Err.ensures.failed in
    halted_all g.D.Disk.keeps_model g.D.Disk.file g.D.Disk.clock g.D.Disk.since g.D.Disk.failures from (seen_ahead c.args.self) arrivals h
    c.args.self.lead.stands _ at.1 at.2
    (ap (λ (k : Kept). k.setup) at.0) (ap (λ (k : Kept). k.facts.horizon) at.0) refl
    (ap (λ (k : Kept). take c.args.self.versions k.facts.installs) at.0)
