use Rattle.std.proofs.Common.{◌∙◌, inl, ◌∷◌, [], ◌++◌, List, refl, sym, ap, subst}
use Rattle.std.specs.Prelude.{take}
use Rattle.std.proofs.Math.Logic.{∥∥₁_map}
use Rattle.units.specs.declared.fault.Fault.TheVariants.{Memory as WantsMemory}
use Rattle.units.specs.declared.setup.Setup.{Setup}
use Rattle.message.specs.declared.message.Envelope.{Envelope}
use Rattle.record.specs.Facts.{Facts}
use Rattle.protocol.specs.Step.{Stepped, plan_input, step_within, stepped}
use Rattle.memory.specs.Kept.{start_of}
use Rattle.shard.specs.Gathered.{seen_ahead, seen_lead}
use Rattle.shard.specs.Groups.{AheadView, IsAdded, IsLeftOut, batch_of}
use Rattle.shard.proofs.Groups.{left_out, more_ahead, not_grown, shown_stays, since_more, since_still, still_ahead}
use Rattle.shard.proofs.ahead.Ahead.take.Goals as goal

-- its own step refuses it
pub returns-in-Err-clause-cause : goal.returns-in-Err-clause-cause
unfolding step_within
returns-in-Err-clause-cause g c =
    let k = c.args.self.now.lead.state in
    let old = seen_ahead c.args.self.now in
    left_out k.memory (plan_input k.setup (start_of k) c.args.now.now c.args.input.now) old.core.gate old.records c.in-Err.fault c.in-Err.ensures.planned

-- no memory for its outbox
pub returns-in_default-clause-ahead : goal.returns-in_default-clause-ahead
returns-in_default-clause-ahead g c from arrivals h =
    let old : AheadView g.row.D.Denot = seen_ahead c.args.self.now in
    let new : AheadView g.row.D.Denot = record old { outboxes = c.reserve.new.self.items } in
    still_ahead g.D.Disk.file g.D.Disk.clock g.D.Disk.since g.D.Disk.failures from old new arrivals h
    (not_grown g.D.Disk.file g.D.Disk.clock g.D.Disk.since g.D.Disk.failures g.met.D.Disk.only_now old.core new.core refl refl refl refl refl)
    refl refl refl (λ i. record (batch_of old) { outboxes = c.reserve.ensures.items i })

pub returns-in_default-clause-kept : goal.returns-in_default-clause-kept
returns-in_default-clause-kept g c = λ i. record (batch_of (seen_ahead c.args.self.now)) { outboxes = c.reserve.ensures.items i }

pub returns-in_default-clause-cause : goal.returns-in_default-clause-cause
unfolding step_within
returns-in_default-clause-cause g c =
    let old = seen_ahead c.args.self.now in
    subst (λ (s : Stepped). IsLeftOut old.core.gate old.records s WantsMemory)
    (sym (ap (stepped c.args.self.now.lead.state.memory) c.in-Ok.ensures.planned)) (inl refl)

-- it is taken
pub invariant_of-self-in-Ok-join : goal.invariant_of-self-in-Ok-join
invariant_of-self-in-Ok-join g c =
    let k = c.args.self.now.lead.state in
    let new = c.join.new.self.state in
    let joined = c.in-Ok-join.ensures.joined in
    record {
      since = since_more _ _ k.facts new.facts k.memory new.memory c.in-Ok.step.logged _ c.in-Ok.ensures.shows joined.0 joined.1 c.args.self.now.since;
      bookless = ∥∥₁_map c.args.self.now.bookless (λ h. ap (λ (s : Setup). s.book) c.join.ensures.grown.setup ∙ h);
    }

pub returns-in-Ok-join-clause-ahead : goal.returns-in-Ok-join-clause-ahead
unfolding step_within
returns-in-Ok-join-clause-ahead g c from arrivals h =
    let old : AheadView g.row.D.Denot = seen_ahead c.args.self.now in
    let k = c.args.self.now.lead.state in
    let joined = c.in-Ok-join.ensures.joined in
    let new : AheadView g.row.D.Denot = record {
      core = seen_lead c.join.new.self;
      records = c.join.new.self.group.items;
      outboxes = c.push_reserved.new.self.items;
      served = old.served;
      versions = old.versions;
      shown = take c.args.self.now.versions c.join.new.self.state.facts.installs;
    } in
    more_ahead g.D.Disk.file g.D.Disk.clock g.D.Disk.since g.D.Disk.failures from old new arrivals
    (record { now = c.args.now.now; input = c.args.input.now }) h c.join.ensures.grown refl refl
    (shown_stays _ _ k.facts c.join.new.self.state.facts k.memory c.in-Ok.step.logged joined.0 c.args.self.now.since)
    (subst (λ (s : Stepped). IsAdded s (batch_of old) (batch_of new))
    (sym (ap (stepped k.memory) c.in-Ok.ensures.planned))
    (λ i. record {
      facts = joined.0 i;
      memory = joined.1 i;
      records = joined.2 i;
      outboxes = (c.push_reserved.ensures.items
          ∙ ap (λ (l : List (List Envelope)). l ++ c.in-Ok-join.outbox ∷ []) c.reserve.ensures.items
          ∙ ap (λ (o : List Envelope). c.args.self.now.outboxes.items ++ o ∷ []) joined.3) i;
    }))

-- it is not
pub invariant_of-self-in-Err-join : goal.invariant_of-self-in-Err-join
invariant_of-self-in-Err-join g c =
    let k = c.args.self.now.lead.state in
    let new = c.join.new.self.state in
    let kept = c.in-Err-join.ensures.kept in
    record {
      since = since_still _ _ k.facts new.facts k.memory new.memory kept.0 kept.1 c.args.self.now.since;
      bookless = ∥∥₁_map c.args.self.now.bookless (λ h. ap (λ (s : Setup). s.book) c.join.ensures.grown.setup ∙ h);
    }

pub returns-in-Err-join-clause-ahead : goal.returns-in-Err-join-clause-ahead
returns-in-Err-join-clause-ahead g c from arrivals h =
    let old : AheadView g.row.D.Denot = seen_ahead c.args.self.now in
    let kept = c.in-Err-join.ensures.kept in
    let new : AheadView g.row.D.Denot = record {
      core = seen_lead c.join.new.self;
      records = c.join.new.self.group.items;
      outboxes = c.reserve.new.self.items;
      served = old.served;
      versions = old.versions;
      shown = take c.args.self.now.versions c.join.new.self.state.facts.installs;
    } in
    still_ahead g.D.Disk.file g.D.Disk.clock g.D.Disk.since g.D.Disk.failures from old new arrivals h c.join.ensures.grown refl refl
    (ap (λ (f : Facts). take c.args.self.now.versions f.installs) kept.0)
    (λ i. record { facts = kept.0 i; memory = kept.1 i; records = kept.2 i; outboxes = c.reserve.ensures.items i })

pub returns-in-Err-join-clause-kept : goal.returns-in-Err-join-clause-kept
returns-in-Err-join-clause-kept g c =
    let kept = c.in-Err-join.ensures.kept in
    λ i. record { facts = kept.0 i; memory = kept.1 i; records = kept.2 i; outboxes = c.reserve.ensures.items i }

pub returns-in-Err-join-clause-cause : goal.returns-in-Err-join-clause-cause
unfolding step_within
returns-in-Err-join-clause-cause g c =
    let old = seen_ahead c.args.self.now in
    subst (λ (s : Stepped). IsLeftOut old.core.gate old.records s c.in-Err-join.fault)
    (sym (ap (stepped c.args.self.now.lead.state.memory) c.in-Ok.ensures.planned)) c.in-Err-join.ensures.cause
