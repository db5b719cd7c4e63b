use Rattle.std.proofs.Common.{◌≡◌, ◌+◌, Bool, Ok, Err, if◌then◌else◌, map, refl, subst, ap, arith}
use Rattle.std.proofs.lemmas.Bool.{false≢true}
use Rattle.units.specs.declared.fault.Fault.{Fault}
use Rattle.units.specs.declared.fault.Fault.TheVariants.{Device}
use Rattle.disk.specs.File.{cut, with_change}
use Rattle.disk.specs.Planned.{IsAsPlanned}
use Rattle.simdisk.specs.Held.{held_file, HasRoomFor, room_less}
use Rattle.simdisk.proofs.Elapsed.{elapses_past}
use Rattle.simdisk.proofs.simdisk.SimDiskDisk.cut.Goals as goal

pub returns-in-Ok-clause-planned : goal.returns-in-Ok-clause-planned
returns-in-Ok-clause-planned c calls more room =
    let old = held_file c.args.self.now.buffers in
    let new = c.cut.new.self in
    subst (λ (failed : Bool). IsAsPlanned {T = Unit {0}} {E = Fault} failed (Ok tt) × HasRoomFor new calls more
    × (held_file new ≡ (if failed then old else with_change (cut c.args.len) old))) c.if-call.ensures.fails
    (refl, (c.in-Ok.ensures.room calls more room).1, c.in-Ok.ensures.ok)

pub returns-then-call-clause-planned : goal.returns-then-call-clause-planned
returns-then-call-clause-planned c calls more room =
    let old = c.args.self.now.buffers in
    subst (λ (failed : Bool). IsAsPlanned {T = Unit {0}} {E = Fault} failed (Err Device) × HasRoomFor old calls more
    × (held_file old ≡ (if failed then held_file old else with_change (cut c.args.len) (held_file old)))) c.if-call.ensures.fails
    (refl, room_less old (calls + 1) more calls more (omega arith) (omega arith) room, refl)

pub returns-in-Err-clause-planned : goal.returns-in-Err-clause-planned
returns-in-Err-clause-planned c calls more room = absurd (false≢true (c.in-Err.ensures.room calls more room).0)

pub returns-then-call-clause-time : goal.returns-then-call-clause-time
returns-then-call-clause-time c = elapses_past _ _ (ap (map held_file) c.add.ensures) (omega arith)

pub returns-in-Err-clause-time : goal.returns-in-Err-clause-time
returns-in-Err-clause-time c = elapses_past _ _ (ap (map held_file) c.add.ensures) (omega arith)

pub returns-in-Ok-clause-time : goal.returns-in-Ok-clause-time
returns-in-Ok-clause-time c = elapses_past _ _ (ap (map held_file) c.add.ensures) (omega arith)
