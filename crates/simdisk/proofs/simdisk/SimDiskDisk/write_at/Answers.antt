use Rattle.std.proofs.Common.{◌≡◌, Bool, Ok, Err, if◌then◌else◌, map, refl, subst, ap, ◌∙◌, arith}
use Rattle.std.proofs.lemmas.Bool.{false≢true}
use Rattle.units.specs.declared.fault.Fault.{Fault}
use Rattle.units.specs.declared.fault.Fault.TheVariants.{Device}
use Rattle.disk.specs.Image.{after_write}
use Rattle.disk.specs.File.{wrote, tried, surface, with_change}
use Rattle.disk.specs.Planned.{IsAsPlanned}
use Rattle.disk.proofs.Runs.{after_write_within}
use Rattle.disk.proofs.Crashes.{wrote_surface}
use Rattle.simdisk.proofs.Histories.{ok_of}
use Rattle.simdisk.proofs.Elapsed.{elapses_past}
use Rattle.simdisk.specs.Held.{held_file, HasRoomFor}
use Rattle.simdisk.proofs.simdisk.SimDiskDisk.write_at.Goals as goal

pub returns-in-Ok-clause-planned : goal.returns-in-Ok-clause-planned
returns-in-Ok-clause-planned c calls more room =
    let old = held_file c.args.self.now.buffers in
    let new = c.write-2.new.self in
    let bytes = c.args.bytes.now in
    subst (λ (failed : Bool). IsAsPlanned {T = Unit {0}} {E = Fault} failed (Ok tt) × HasRoomFor new calls more
    × (held_file new ≡ with_change (if failed then tried c.args.at bytes else wrote c.args.at bytes) old)) c.if-write.ensures.fails
    (refl, (c.in-Ok.ensures.room calls more room).1, c.in-Ok.ensures.ok)

pub returns-then-write-clause-planned : goal.returns-then-write-clause-planned
returns-then-write-clause-planned c calls more room =
    let old = held_file c.args.self.now.buffers in
    let new = c.try_write.new.self in
    let bytes = c.args.bytes.now in
    let kept = c.try_write.ensures.room calls more room in
    subst (λ (failed : Bool). IsAsPlanned {T = Unit {0}} {E = Fault} failed (Err Device) × HasRoomFor new calls more
    × (held_file new ≡ with_change (if failed then tried c.args.at bytes else wrote c.args.at bytes) old)) c.if-write.ensures.fails
    (refl, kept.1, ok_of c.try_write.result kept.0 c.try_write.ensures.ok)

pub returns-in-Ok-clause-crash : goal.returns-in-Ok-clause-crash
returns-in-Ok-clause-crash c keeps image may =
    let old = held_file c.args.self.now.buffers in
    let is : surface (held_file c.write-2.new.self) ≡ after_write c.args.at c.args.bytes.now (surface old) =
    ap surface c.in-Ok.ensures.ok ∙ wrote_surface c.args.at c.args.bytes.now old (c.requires tt) in
    after_write_within c.args.at c.args.bytes.now (surface old) (c.requires tt) image (rw (← is) may)

pub returns-in-Err-clause-planned : goal.returns-in-Err-clause-planned
returns-in-Err-clause-planned c calls more room = absurd (false≢true (c.in-Err.ensures.room calls more room).0)

pub returns-then-write-clause-time : goal.returns-then-write-clause-time
returns-then-write-clause-time c = elapses_past _ _ (ap (map held_file) c.add.ensures) (omega arith)

pub returns-in-Err-clause-time : goal.returns-in-Err-clause-time
returns-in-Err-clause-time c = elapses_past _ _ (ap (map held_file) c.add.ensures) (omega arith)

pub returns-in-Ok-clause-time : goal.returns-in-Ok-clause-time
returns-in-Ok-clause-time c = elapses_past _ _ (ap (map held_file) c.add.ensures) (omega arith)
