use Rattle.std.proofs.Common.{◌≡◌, ◌∙◌, inl, inr, ◌++◌, ℕ, Option, Some, None, ⊎_elim, refl, sym, ap, subst}
use Rattle.std.specs.Prelude.{option_to_list}
use Rattle.std.proofs.lemmas.Bool.{false≢true}
use Rattle.std.proofs.lemmas.List.{append-nil}
use Rattle.disk.specs.File.{File, surface}
use Rattle.gatelog.specs.Frames.{end_from, IsFull}
use Rattle.gatelog.specs.Groups.{Group}
use Rattle.gatelog.specs.Shown.{gate_at}
use Rattle.record.specs.Facts.{Facts}
use Rattle.record.specs.declared.record.Record.{Record}
use Rattle.ledger.specs.Keeps.{IsLasting}
use Rattle.protocol.specs.Plan.{carried}
use Rattle.protocol.specs.Step.{facts_after}
use Rattle.memory.specs.Carry.{IsCarriable}
use Rattle.memory.specs.Plans.{plan_of}
use Rattle.shard.specs.Gathered.{seen_lead}
use Rattle.shard.specs.Logs.{records_in, KeepsRecords}
use Rattle.shard.specs.On.{IsLogFull}
use Rattle.shard.proofs.Carried.{can_carry, lasting_then, memory_after, facts_then, sound_then}
use Rattle.shard.proofs.Commits.{sound-as}
use Rattle.shard.proofs.Groups.{ahead_more, ahead_still, not_grown}
use Rattle.shard.proofs.Showable.{as-showable}
use Rattle.shard.proofs.lead.Lead.join.Goals as goal

pub carry-requires : goal.carry-requires
carry-requires g c = record {
  ready = subst (λ (l : Option Record). IsCarriable c.make_ready.new.self (record { plan = c.args.step.plan; logged = l })) c.in_default.is
      (can_carry c.args.self.now.state c.make_ready.new.self c.args.step c.requires.due c.in-Ok.ensures.ready c.ready_plans_can_be_carried.ensures.carriable);
}

pub carry-requires-in-Ok-gather : goal.carry-requires-in-Ok-gather
carry-requires-in-Ok-gather g c =
    let own : c.args.step.logged ≡ Some c.note.result =
    c.in-Some.is ∙ ap (λ (r : Record). Some r) (sym (c.note.ensures ∙ c.in-Ok-gather.ensures.joined)) in
    record {
      ready = subst (λ (l : Option Record). IsCarriable c.make_ready.new.self (record { plan = c.args.step.plan; logged = l })) own
          (can_carry c.args.self.now.state c.make_ready.new.self c.args.step c.requires.due c.in-Ok.ensures.ready
          c.ready_plans_can_be_carried.ensures.carriable);
    }

-- no record: nothing is gathered
pub invariant_of-self-in_default : goal.invariant_of-self-in_default
invariant_of-self-in_default g c =
    let k = c.args.self.now.state in
    let ready = c.make_ready.new.self in
    let s = c.args.step in
    let made = c.in-Ok.ensures.ready in
    let none : s.logged ≡ None = c.in_default.is in
    let facts = facts_then k ready s c.requires.due made c.carry.new.self.facts (c.carry.ensures.facts ∙ ap (facts_after ready.facts) (sym none)) in
    let memory = memory_after k ready s c.requires.due made c.ready_plans_can_be_carried.ensures.unseen c.carry.new.self.memory
    (c.carry.ensures.memory ∙ ap (λ (l : Option Record). carried (plan_of ready.memory.rows (record { plan = s.plan; logged = l })) ready.memory) (sym none))
    in
    record {
      running = c.args.self.now.running;
      placed = c.args.self.now.placed;
      stands = c.args.self.now.stands;
      agrees = λ keeps.
          ahead_still _ _ _ _ k.facts c.carry.new.self.facts refl refl (facts ∙ ap (facts_after k.facts) none) (c.args.self.now.agrees keeps);
      sound = sound_then k ready s c.requires.due made _ _ _ (c.carry.ensures.setup ∙ made.setup) facts memory;
      showable = as-showable c.carry.new.self.facts _ c.carry.new.self.memory _ facts memory c.requires.due.showable;
      lasting = lasting_then k ready s c.requires.due made c.lasting_follows.ensures c.carry.new.self.facts facts c.args.self.now.lasting;
    }

pub returns-in_default-clause-grown : goal.returns-in_default-clause-grown
returns-in_default-clause-grown g c =
    not_grown g.D.Disk.file g.D.Disk.clock g.D.Disk.since g.D.Disk.failures g.met.D.Disk.only_now (seen_lead c.args.self.now)
    (record (seen_lead c.args.self.now) {
      setup = c.carry.new.self.setup;
      facts = c.carry.new.self.facts;
      memory = c.carry.new.self.memory;
    })
    refl (c.carry.ensures.setup ∙ c.in-Ok.ensures.ready.setup) refl refl refl

pub returns-in_default-clause-joined : goal.returns-in_default-clause-joined
returns-in_default-clause-joined g c =
    let k = c.args.self.now.state in
    let ready = c.make_ready.new.self in
    let s = c.args.step in
    let made = c.in-Ok.ensures.ready in
    let none : s.logged ≡ None = c.in_default.is in (
      facts_then k ready s c.requires.due made c.carry.new.self.facts (c.carry.ensures.facts ∙ ap (facts_after ready.facts) (sym none)),
      memory_after k ready s c.requires.due made c.ready_plans_can_be_carried.ensures.unseen c.carry.new.self.memory
          (c.carry.ensures.memory
          ∙ ap (λ (l : Option Record). carried (plan_of ready.memory.rows (record { plan = s.plan; logged = l })) ready.memory) (sym none)),
      sym (append-nil c.args.self.now.group.items) ∙ ap (λ (l : Option Record). c.args.self.now.group.items ++ option_to_list l) (sym none),
      c.carry.ensures.outbox,
    )

-- the record of the step joined the group
pub invariant_of-self-in-Ok-gather : goal.invariant_of-self-in-Ok-gather
invariant_of-self-in-Ok-gather g c =
    let k = c.args.self.now.state in
    let ready = c.make_ready.new.self in
    let s = c.args.step in
    let made = c.in-Ok.ensures.ready in
    let done = c.carry-in-Ok-gather in
    let own : s.logged ≡ Some c.note.result = c.in-Some.is ∙ ap (λ (r : Record). Some r) (sym (c.note.ensures ∙ c.in-Ok-gather.ensures.joined)) in
    let facts = facts_then k ready s c.requires.due made done.new.self.facts (done.ensures.facts ∙ ap (facts_after ready.facts) (sym own)) in
    let memory = memory_after k ready s c.requires.due made c.ready_plans_can_be_carried.ensures.unseen done.new.self.memory
    (done.ensures.memory ∙ ap (λ (l : Option Record). carried (plan_of ready.memory.rows (record { plan = s.plan; logged = l })) ready.memory) (sym own)) in
    record {
      running = c.gather.ensures.same.1 ∙ c.args.self.now.running;
      placed = ap (λ (x : Group). x.gate) c.in-Ok-gather.ensures.added ∙ c.args.self.now.placed ∙ sym c.gather.ensures.same.0;
      stands = λ keeps.
          subst (λ (f : File). KeepsRecords (surface f) (records_in (surface f).seen)) (sym c.gather.ensures.same.2) (c.args.self.now.stands keeps);
      agrees = λ keeps.
          ahead_more c.alike_stays.ensures _ _ _ _ k.facts done.new.self.facts c.in-Some.item (ap surface c.gather.ensures.same.2)
          (ap (λ (x : Group). x.items) c.in-Ok-gather.ensures.added) (facts ∙ ap (facts_after k.facts) c.in-Some.is) (c.args.self.now.agrees keeps);
      sound = sound_then k ready s c.requires.due made _ _ _ (done.ensures.setup ∙ made.setup) facts memory;
      showable = as-showable done.new.self.facts _ done.new.self.memory _ facts memory c.requires.due.showable;
      lasting = lasting_then k ready s c.requires.due made c.lasting_follows.ensures done.new.self.facts facts c.args.self.now.lasting;
    }

pub returns-in-Ok-gather-clause-grown : goal.returns-in-Ok-gather-clause-grown
returns-in-Ok-gather-clause-grown g c = record {
  setup = c.carry-in-Ok-gather.ensures.setup ∙ c.in-Ok.ensures.ready.setup;
  gate = c.gather.ensures.same.0;
  slot = c.gather.ensures.slot;
  stopped = c.gather.ensures.same.1;
  file_same = c.gather.ensures.same.2;
  failures_stay = c.gather.ensures.failures_stay;
  time = c.gather.ensures.time;
}

pub returns-in-Ok-gather-clause-joined : goal.returns-in-Ok-gather-clause-joined
returns-in-Ok-gather-clause-joined g c =
    let k = c.args.self.now.state in
    let ready = c.make_ready.new.self in
    let s = c.args.step in
    let made = c.in-Ok.ensures.ready in
    let done = c.carry-in-Ok-gather in
    let own : s.logged ≡ Some c.note.result = c.in-Some.is ∙ ap (λ (r : Record). Some r) (sym (c.note.ensures ∙ c.in-Ok-gather.ensures.joined)) in (
      facts_then k ready s c.requires.due made done.new.self.facts (done.ensures.facts ∙ ap (facts_after ready.facts) (sym own)),
      memory_after k ready s c.requires.due made c.ready_plans_can_be_carried.ensures.unseen done.new.self.memory
          (done.ensures.memory
          ∙ ap (λ (l : Option Record). carried (plan_of ready.memory.rows (record { plan = s.plan; logged = l })) ready.memory) (sym own)),
      ap (λ (x : Group). x.items) c.in-Ok-gather.ensures.added
          ∙ ap (λ (l : Option Record). c.args.self.now.group.items ++ option_to_list l) (sym c.in-Some.is),
      done.ensures.outbox,
    )

-- it did not: what was taken in for it is taken back
pub invariant_of-self-in-Err-gather : goal.invariant_of-self-in-Err-gather
invariant_of-self-in-Err-gather g c =
    let k = c.args.self.now.state in
    let made = c.in-Ok.ensures.ready in
    let facts = c.undo.ensures.facts ∙ made.facts in
    let memory = c.undo.ensures.memory k.memory c.in-Ok.ensures.admits made.memory in
    record {
      running = c.gather.ensures.same.1 ∙ c.args.self.now.running;
      placed = ap (λ (x : Group). x.gate) c.in-Err-gather.ensures.refused ∙ c.args.self.now.placed ∙ sym c.gather.ensures.same.0;
      stands = λ keeps.
          subst (λ (f : File). KeepsRecords (surface f) (records_in (surface f).seen)) (sym c.gather.ensures.same.2) (c.args.self.now.stands keeps);
      agrees = λ keeps.
          ahead_still _ _ _ _ k.facts c.undo.new.self.facts (ap surface c.gather.ensures.same.2)
          (ap (λ (x : Group). x.items) c.in-Err-gather.ensures.refused) facts (c.args.self.now.agrees keeps);
      sound = sound-as k.setup _ k.facts _ k.memory _ (c.undo.ensures.setup ∙ made.setup) facts memory c.args.self.now.sound;
      showable = as-showable c.undo.new.self.facts _ c.undo.new.self.memory _ facts memory c.args.self.now.showable;
      lasting = subst (λ (f : Facts). ∥ IsLasting f ∥₁) (sym facts) c.args.self.now.lasting;
    }

pub returns-in-Err-gather-clause-grown : goal.returns-in-Err-gather-clause-grown
returns-in-Err-gather-clause-grown g c = record {
  setup = c.undo.ensures.setup ∙ c.in-Ok.ensures.ready.setup;
  gate = c.gather.ensures.same.0;
  slot = c.gather.ensures.slot;
  stopped = c.gather.ensures.same.1;
  file_same = c.gather.ensures.same.2;
  failures_stay = c.gather.ensures.failures_stay;
  time = c.gather.ensures.time;
}

pub returns-in-Err-gather-clause-kept : goal.returns-in-Err-gather-clause-kept
returns-in-Err-gather-clause-kept g c =
    let made = c.in-Ok.ensures.ready in (
      c.undo.ensures.facts ∙ made.facts,
      c.undo.ensures.memory c.args.self.now.state.memory c.in-Ok.ensures.admits made.memory,
      ap (λ (x : Group). x.items) c.in-Err-gather.ensures.refused,
    )

pub returns-in-Err-gather-clause-cause : goal.returns-in-Err-gather-clause-cause
returns-in-Err-gather-clause-cause g c =
    let old = c.args.self.now in
    ⊎_elim (λ stopped. absurd (false≢true (sym old.running ∙ stopped.1)))
    (λ else. ⊎_elim
    (λ full. inr (
      full.0,
      subst (λ (l : Option Record). IsLogFull (end_from (gate_at old.gate_log) old.group.items) l) (sym c.in-Some.is)
          (subst (λ (n : ℕ). IsFull (end_from n old.group.items) c.in-Some.item) old.placed full.2),
    ))
    (λ memory. inl memory.0) else)
    c.in-Err-gather.ensures.cause

-- the memory was not there
pub invariant_of-self : goal.invariant_of-self
invariant_of-self g c =
    let k = c.args.self.now.state in
    let now = c.make_ready.new.self in
    let kept = c.in-Err.ensures.kept in
    record {
      running = c.args.self.now.running;
      placed = c.args.self.now.placed;
      stands = c.args.self.now.stands;
      agrees = λ keeps. ahead_still _ _ _ _ k.facts now.facts refl refl kept.1 (c.args.self.now.agrees keeps);
      sound = sound-as k.setup now.setup k.facts now.facts k.memory now.memory kept.0 kept.1 kept.2 c.args.self.now.sound;
      showable = as-showable now.facts k.facts now.memory k.memory kept.1 kept.2 c.args.self.now.showable;
      lasting = subst (λ (f : Facts). ∥ IsLasting f ∥₁) (sym kept.1) c.args.self.now.lasting;
    }

pub returns-in-Err-clause-grown : goal.returns-in-Err-clause-grown
returns-in-Err-clause-grown g c =
    not_grown g.D.Disk.file g.D.Disk.clock g.D.Disk.since g.D.Disk.failures g.met.D.Disk.only_now (seen_lead c.args.self.now)
    (record (seen_lead c.args.self.now) {
      setup = c.make_ready.new.self.setup;
      facts = c.make_ready.new.self.facts;
      memory = c.make_ready.new.self.memory;
    })
    refl c.in-Err.ensures.kept.0 refl refl refl

pub returns-in-Err-clause-cause : goal.returns-in-Err-clause-cause
returns-in-Err-clause-cause g c = inl c.in-Err.ensures.memory
