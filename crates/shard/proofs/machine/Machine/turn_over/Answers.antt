use Rattle.std.proofs.Common.{◌≡◌, ◌≤◌, ◌+◌, ◌∙◌, inl, inr, length, IsFalse, refl, sym, subst, arith}
use Rattle.std.proofs.Math.Logic.{∥∥₁_elim}
use Rattle.disk.specs.File.{surface}
use Rattle.gatelog.specs.Areas.{area_bytes}
use Rattle.gatelog.specs.Shown.{disk_of, gate_at, next_slot, is_stopped}
use Rattle.gatelog.specs.Slots.{slot_count}
use Rattle.ledger.specs.Turned.{turned}
use Rattle.ledger.proofs.Props.{regular-prop}
use Rattle.ledger.specs.Keeps.{IsRegular}
use Rattle.units.specs.declared.fault.Fault.TheVariants.{TimeSpent}
use Rattle.shard.specs.Core.{seen_machine}
use Rattle.shard.specs.On.{CoreView}
use Rattle.shard.specs.Turned.{HasTurnPlace}
use Rattle.shard.proofs.Appends.{no-time}
use Rattle.shard.proofs.Turnings.{IsStood, agrees_over, gone, no-place, stood, turned_as, unmoved, unturned}
use Rattle.shard.proofs.machine.Machine.turn_over.Goals as goal

pub returns-then-is_stopped-clause-turned : goal.returns-then-is_stopped-clause-turned
returns-then-is_stopped-clause-turned g c =
    let k = c.args.self.now.state in
    unmoved g.D.Disk.keeps_model g.D.Disk.obeys g.D.Disk.file g.D.Disk.clock g.D.Disk.since g.D.Disk.failures g.D.Disk.plan g.met.D.Disk.only_now
    (seen_machine c.args.self.now) (sym c.if-is_stopped.ensures.value) (∥∥₁_elim c.args.self.now.lasting (regular-prop k.facts) (λ l. l.regular))

-- no slot is left
pub returns-then-slot-ge-SLOTS-clause-turned : goal.returns-then-slot-ge-SLOTS-clause-turned
returns-then-slot-ge-SLOTS-clause-turned g c =
    let k = c.args.self.now.state in
    let old = seen_machine c.args.self.now in
    let spent : slot_count ≤ old.slot = omega (arith, c.slot.ensures, c.if-slot-ge-SLOTS.true) in
    unturned g.D.Disk.keeps_model g.D.Disk.obeys g.D.Disk.file g.D.Disk.clock g.D.Disk.since g.D.Disk.failures g.D.Disk.plan old old
    (sym c.if-is_stopped.ensures.value) (∥∥₁_elim c.args.self.now.lasting (regular-prop k.facts) (λ l. l.regular))
    (λ keeps. stood (surface (g.D.Disk.file old.disk)) (c.if-is_stopped.ensures.stands refl keeps) (c.if-is_stopped.ensures.begun refl keeps))
    refl refl refl TimeSpent (inr (refl, inl spent)) (refl, refl, refl, refl) (omega arith)
    (no-time g.D.Disk.file g.D.Disk.clock g.D.Disk.since g.met.D.Disk.only_now old.disk) refl

pub returns-in-Err-clause-turned : goal.returns-in-Err-clause-turned
returns-in-Err-clause-turned g c =
    let k = c.args.self.now.state in
    let old = seen_machine c.args.self.now in
    unturned g.D.Disk.keeps_model g.D.Disk.obeys g.D.Disk.file g.D.Disk.clock g.D.Disk.since g.D.Disk.failures g.D.Disk.plan old old
    (sym c.if-is_stopped.ensures.value) (∥∥₁_elim c.args.self.now.lasting (regular-prop k.facts) (λ l. l.regular))
    (λ keeps. stood (surface (g.D.Disk.file old.disk)) (c.if-is_stopped.ensures.stands refl keeps) (c.if-is_stopped.ensures.begun refl keeps))
    refl refl refl c.in-Err.fault (inl c.in-Err.ensures.memory) (refl, refl, refl, refl) (omega arith)
    (no-time g.D.Disk.file g.D.Disk.clock g.D.Disk.since g.met.D.Disk.only_now old.disk) refl

pub returns-in-Err-stage_area-clause-turned : goal.returns-in-Err-stage_area-clause-turned
returns-in-Err-stage_area-clause-turned g c =
    let k = c.args.self.now.state in
    let old = seen_machine c.args.self.now in
    let staged = c.in-Err-stage_area.ensures in
    let running : IsFalse old.stopped = sym c.if-is_stopped.ensures.value in
    unturned g.D.Disk.keeps_model g.D.Disk.obeys g.D.Disk.file g.D.Disk.clock g.D.Disk.since g.D.Disk.failures g.D.Disk.plan old _
    running (∥∥₁_elim c.args.self.now.lasting (regular-prop k.facts) (λ l. l.regular))
    (λ keeps. stood (surface (g.D.Disk.file old.disk)) (c.if-is_stopped.ensures.stands refl keeps) (c.if-is_stopped.ensures.begun refl keeps))
    refl refl refl c.in-Err-stage_area.fault
    (no-place old.slot old.gate c.in-Ok.area (turned k.facts) c.in-Err-stage_area.fault old.stopped c.in-Ok.ensures.records running staged.cause)
    (staged.same.2, staged.same.0, staged.same.1, staged.same.3) staged.failures_stay staged.time staged.plan

pub returns-in-Ok-stage_area-clause-turned : goal.returns-in-Ok-stage_area-clause-turned
returns-in-Ok-stage_area-clause-turned g c =
    let k = c.args.self.now.state in
    let old = seen_machine c.args.self.now in
    let mid = c.stage_area.new.self in
    let staged = c.in-Ok-stage_area.staged in
    let at = c.in-Ok-stage_area.ensures in
    let went = c.turn_over.ensures in
    let running : IsFalse old.stopped = sym c.if-is_stopped.ensures.value in
    let runs : IsFalse (is_stopped mid) = at.same.2 ∙ running in
    let area : staged.items ≡ turned k.facts = at.staged.0 ∙ c.in-Ok.ensures.records in
    let place : HasTurnPlace old.slot old.gate (turned k.facts) =
    subst (HasTurnPlace old.slot old.gate) c.in-Ok.ensures.records (at.running.1, at.running.2) in
    let regular : IsRegular k.facts = ∥∥₁_elim c.args.self.now.lasting (regular-prop k.facts) (λ l. l.regular) in
    let stands : g.D.Disk.keeps_model → IsStood (surface (g.D.Disk.file old.disk)) =
    λ keeps. stood (surface (g.D.Disk.file old.disk)) (c.if-is_stopped.ensures.stands refl keeps) (c.if-is_stopped.ensures.begun refl keeps) in
    let room : g.D.Disk.obeys → g.D.Disk.has_room (disk_of mid) 5 (length (area_bytes staged.items) + 9) =
    λ obeys. subst (λ rs. g.D.Disk.has_room (disk_of mid) 5 (length (area_bytes rs) + 9)) (sym at.staged.0) (at.room obeys) in
    let new : CoreView _ = record {
      disk = disk_of c.turn_over.new.self;
      gate = gate_at c.turn_over.new.self;
      slot = next_slot c.turn_over.new.self;
      stopped = is_stopped c.turn_over.new.self;
      setup = k.setup;
      facts = k.facts;
      memory = k.memory;
    } in
    turned_as g.D.Disk.keeps_model g.D.Disk.obeys g.D.Disk.file g.D.Disk.clock g.D.Disk.since g.D.Disk.failures g.D.Disk.plan old new running regular stands
    refl refl refl (disk_of mid) c.turn_over.result
    (gone g.D.Disk.keeps_model g.D.Disk.obeys g.D.Disk.file g.D.Disk.clock g.D.Disk.since g.D.Disk.failures g.D.Disk.plan old new running regular stands
    refl refl refl (disk_of mid) (is_stopped mid) staged.gate staged.slot (next_slot mid) staged.items c.turn_over.result _ runs at.staged.1 at.staged.2
    (at.same.1 ∙ sym at.staged.2) area went.any_moment went.durable went.read went.begins went.read_either went.running went.gate went.slot
    went.failures_stay went.cause went.never (λ obeys. (went.planned runs (room obeys)).0)
    (λ call obeys keeps. went.armed call runs keeps (room obeys)))
    place at.same.3 at.failures_stay at.time at.plan

pub invariant_of-self : goal.invariant_of-self
invariant_of-self g c =
    let k = c.args.self.now.state in
    let old = seen_machine c.args.self.now in
    let mid = c.stage_area.new.self in
    let staged = c.in-Ok-stage_area.staged in
    let at = c.in-Ok-stage_area.ensures in
    let went = c.turn_over.ensures in
    let running : IsFalse old.stopped = sym c.if-is_stopped.ensures.value in
    let runs : IsFalse (is_stopped mid) = at.same.2 ∙ running in
    let area : staged.items ≡ turned k.facts = at.staged.0 ∙ c.in-Ok.ensures.records in
    let place : HasTurnPlace old.slot old.gate (turned k.facts) =
    subst (HasTurnPlace old.slot old.gate) c.in-Ok.ensures.records (at.running.1, at.running.2) in
    let regular : IsRegular k.facts = ∥∥₁_elim c.args.self.now.lasting (regular-prop k.facts) (λ l. l.regular) in
    let stands : g.D.Disk.keeps_model → IsStood (surface (g.D.Disk.file old.disk)) =
    λ keeps. stood (surface (g.D.Disk.file old.disk)) (c.if-is_stopped.ensures.stands refl keeps) (c.if-is_stopped.ensures.begun refl keeps) in
    let room : g.D.Disk.obeys → g.D.Disk.has_room (disk_of mid) 5 (length (area_bytes staged.items) + 9) =
    λ obeys. subst (λ rs. g.D.Disk.has_room (disk_of mid) 5 (length (area_bytes rs) + 9)) (sym at.staged.0) (at.room obeys) in
    let new : CoreView _ = record {
      disk = disk_of c.turn_over.new.self;
      gate = gate_at c.turn_over.new.self;
      slot = next_slot c.turn_over.new.self;
      stopped = is_stopped c.turn_over.new.self;
      setup = k.setup;
      facts = k.facts;
      memory = k.memory;
    } in
    let turned_over =
    turned_as g.D.Disk.keeps_model g.D.Disk.obeys g.D.Disk.file g.D.Disk.clock g.D.Disk.since g.D.Disk.failures g.D.Disk.plan old new running regular stands
    refl refl refl (disk_of mid) c.turn_over.result
    (gone g.D.Disk.keeps_model g.D.Disk.obeys g.D.Disk.file g.D.Disk.clock g.D.Disk.since g.D.Disk.failures g.D.Disk.plan old new running regular stands
    refl refl refl (disk_of mid) (is_stopped mid) staged.gate staged.slot (next_slot mid) staged.items c.turn_over.result _ runs at.staged.1 at.staged.2
    (at.same.1 ∙ sym at.staged.2) area went.any_moment went.durable went.read went.begins went.read_either went.running went.gate went.slot
    went.failures_stay went.cause went.never (λ obeys. (went.planned runs (room obeys)).0)
    (λ call obeys keeps. went.armed call runs keeps (room obeys)))
    place at.same.3 at.failures_stay at.time at.plan in
    record {
      agrees = λ keeps.
          agrees_over g.D.Disk.keeps_model g.D.Disk.obeys g.D.Disk.file g.D.Disk.clock g.D.Disk.since g.D.Disk.failures g.D.Disk.plan
          c.turned_keeps.ensures g.met.D.Disk.counts_now old new c.turn_over.result keeps (g.met.D.Disk.reads_now old.disk) running turned_over
          (c.args.self.now.agrees keeps);
      sound = c.args.self.now.sound;
      showable = c.args.self.now.showable;
      lasting = c.args.self.now.lasting;
    }
