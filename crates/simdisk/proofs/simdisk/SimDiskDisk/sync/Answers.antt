use Rattle.std.proofs.Common.{◌≡◌, ◌+◌, Bool, Ok, Err, if◌then◌else◌, map, refl, subst, ap, arith}
use Rattle.units.specs.declared.fault.Fault.{Fault}
use Rattle.units.specs.declared.fault.Fault.TheVariants.{Device}
use Rattle.disk.specs.Image.{after_sync}
use Rattle.disk.specs.File.{surface, synced}
use Rattle.disk.specs.Planned.{IsAsPlanned}
use Rattle.disk.proofs.Runs.{after_sync_within}
use Rattle.disk.proofs.Crashes.{kept-seen}
use Rattle.simdisk.specs.Held.{held_file, HasRoomFor, room_less}
use Rattle.simdisk.proofs.Elapsed.{elapses_past}
use Rattle.simdisk.proofs.simdisk.SimDiskDisk.sync.Goals as goal

pub returns-clause-planned : goal.returns-clause-planned
returns-clause-planned c calls more room =
    let old = held_file c.args.self.now.buffers in
    let new = c.sync.new.self in
    subst (λ (failed : Bool). IsAsPlanned {T = Unit {0}} {E = Fault} failed (Ok tt) × HasRoomFor new calls more
    × (held_file new ≡ (if failed then old else synced old))) c.if-call.ensures.fails
    (refl, c.sync.ensures.room calls more room, c.sync.ensures.file)

pub returns-clause-crash : goal.returns-clause-crash
returns-clause-crash c keeps image may =
    let old = held_file c.args.self.now.buffers in
    let is : surface (held_file c.sync.new.self) ≡ after_sync (surface old) = ap surface c.sync.ensures.file in
    after_sync_within (surface old) (kept-seen old.durable old.changes) image (rw (← is) may)

pub returns-then-call-clause-planned : goal.returns-then-call-clause-planned
returns-then-call-clause-planned c calls more room =
    let old = c.args.self.now.buffers in
    subst (λ (failed : Bool). IsAsPlanned {T = Unit {0}} {E = Fault} failed (Err Device) × HasRoomFor old calls more
    × (held_file old ≡ (if failed then held_file old else synced (held_file old)))) c.if-call.ensures.fails
    (refl, room_less old (calls + 1) more calls more (omega arith) (omega arith) room, refl)

pub returns-then-call-clause-time : goal.returns-then-call-clause-time
returns-then-call-clause-time c = elapses_past _ _ (ap (map held_file) c.add.ensures) (omega arith)

pub returns-clause-time : goal.returns-clause-time
returns-clause-time c = elapses_past _ _ (ap (map held_file) c.add.ensures) (omega arith)
