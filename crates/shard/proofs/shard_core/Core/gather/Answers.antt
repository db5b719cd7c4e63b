use Rattle.std.proofs.Common.{◌∙◌, length, sym, ap}
use Rattle.std.proofs.Math.Logic.{∥∥₁_map}
use Rattle.protocol.specs.Rows.{safe}
use Rattle.shard.specs.Core.{seen}
use Rattle.shard.specs.Gathered.{seen_lead}
use Rattle.shard.proofs.Groups.{bookless, not_grown, since_begun, versions_all}
use Rattle.shard.proofs.shard_core.Core.gather.Goals as goal

pub invariant_of-result : goal.invariant_of-result
invariant_of-result g c =
    let same = c.lead-lead.ensures.same in
    record {
      since = ∣ since_begun c.lead-lead.result.state.facts c.lead-lead.result.state.memory _ _
          (c.safe-served.ensures ∙ ap (λ v. safe v.memory) (sym same))
          (ap length c.installs-versions.ensures ∙ ap (λ v. length v.facts.installs) (sym same)) ∣₁;
      bookless = ∥∥₁_map c.args.self.replays (λ h. ap (λ v. v.setup.book) same ∙ bookless _ c.args.self.book _ (sym c.if-is_some.ensures) h);
    }

pub returns-clause-begun : goal.returns-clause-begun
returns-clause-begun g c =
    let same = c.lead-lead.ensures.same in
    record {
      running = sym c.if-is_stopped.ensures.value;
      run = λ i. record {
        facts = (same i).facts;
        memory = (same i).memory;
        records = c.lead-lead.ensures.none i;
        outboxes = c.new.ensures.items i;
      };
      grown = not_grown g.D.Disk.file g.D.Disk.clock g.D.Disk.since g.D.Disk.failures g.met.D.Disk.only_now (seen c.args.self)
          (seen_lead c.lead-lead.result) (ap (λ v. v.disk) same) (ap (λ v. v.setup) same) (ap (λ v. v.gate) same) (ap (λ v. v.slot) same)
          (ap (λ v. v.stopped) same);
      served = c.safe-served.ensures;
      versions = ap length c.installs-versions.ensures;
      shown = versions_all _ c.lead-lead.result.state.facts.installs
          (ap length c.installs-versions.ensures ∙ ap (λ v. length v.facts.installs) (sym same))
          ∙ ap (λ v. v.facts.installs) same;
    }
