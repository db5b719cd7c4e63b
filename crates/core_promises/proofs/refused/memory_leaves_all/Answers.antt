use Rattle.std.proofs.Common.{◌≡◌, ⊎_elim, List, Result, Err, IfErr, subst}
use Rattle.units.specs.declared.fault.Fault.{Fault}
use Rattle.units.specs.declared.fault.Fault.TheVariants.{Memory as WantsMemory, Device}
use Rattle.disk.specs.File.{File}
use Rattle.message.specs.declared.message.Envelope.{Envelope}
use Rattle.shard.specs.Core.{seen, book_of}
use Rattle.shard.specs.Booked.{HasEntered}
use Rattle.shard.specs.On.{CoreView, StandsAsBefore, step_of}
use Rattle.shard.proofs.Booked.{room-or-full, went}
use Rattle.core_promises.proofs.refused.memory_leaves_all.Goals as goal

-- no device failed where memory was refused
no_device : WantsMemory ≡ Device → ⊥
no_device e = cc

stands : {D : Type 0} (file : D → File) (old new : CoreView D) (result : Result (List Envelope) Fault) → IfErr result (StandsAsBefore file old new)
    → result ≡ Err WantsMemory
    → (new.facts ≡ old.facts) × (new.memory ≡ old.memory)
    × (new.stopped ≡ old.stopped) × (new.gate ≡ old.gate) × (file new.disk ≡ file old.disk)
stands file old new result kept e =
    let h : StandsAsBefore file old new WantsMemory = subst (λ r. IfErr r (StandsAsBefore file old new)) e kept in
    let same : (new.stopped ≡ old.stopped) × (new.gate ≡ old.gate) × (file new.disk ≡ file old.disk) =
    ⊎_elim (λ device. absurd (no_device device)) (λ same. same) h.2 in
    (h.0, h.1, same.0, same.1, same.2)

pub returns-clause-state : goal.returns-clause-state
returns-clause-state g c = λ e.
    let old = seen c.args.core.now in
    let new = seen c.on.new.self in
    let stood = went g.D.Disk.keeps_model g.D.Disk.obeys g.D.Disk.file g.D.Disk.clock g.D.Disk.since g.D.Disk.failures g.D.Disk.plan old new
    (step_of old c.args.now.now c.args.input.now) _ _ (room-or-full old.setup.book (book_of c.args.core.now)) c.on.result c.on.ensures.stepped
    c.on.ensures.crowded in
    let all = stands g.D.Disk.file old new c.on.result stood.1 e in
    (stood.2, all.0, all.1, all.2)

pub returns-clause-log : goal.returns-clause-log
returns-clause-log g c = λ e.
    let old = seen c.args.core.now in
    let new = seen c.on.new.self in
    let stood = went g.D.Disk.keeps_model g.D.Disk.obeys g.D.Disk.file g.D.Disk.clock g.D.Disk.since g.D.Disk.failures g.D.Disk.plan old new
    (step_of old c.args.now.now c.args.input.now) _ _ (room-or-full old.setup.book (book_of c.args.core.now)) c.on.result c.on.ensures.stepped
    c.on.ensures.crowded in
    let all = stands g.D.Disk.file old new c.on.result stood.1 e in
    (all.3, all.4)

pub returns-clause-book : goal.returns-clause-book
returns-clause-book g c = λ e.
    subst (HasEntered (book_of c.args.core.now) (book_of c.on.new.self) c.args.now.now c.args.input.now) e c.on.ensures.entered
