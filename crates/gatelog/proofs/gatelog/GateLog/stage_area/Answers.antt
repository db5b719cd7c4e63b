use Rattle.std.proofs.Common.{◌+◌, [], ◌∷◌, length, flat_map, refl, arith}
use Rattle.std.proofs.lemmas.List.{length-append}
use Rattle.gatelog.specs.Areas.{area_bytes, whole_frame}
use Rattle.frames.proofs.Calls.{on_any}
use Rattle.gatelog.proofs.Elapsed.{elapses_none, leaves_same}
use Rattle.gatelog.proofs.gatelog.GateLog.stage_area.Goals as goal

pub returns-clause-room : goal.returns-clause-room
returns-clause-room g c = on_any c.at.result _ (λ obeys.
    g.met.D.Disk.room_less c.reserve.new.self 8 (c.len.result + 10) 5 (length (area_bytes c.args.area) + 9) (omega arith)
    (omega (arith, c.len.ensures, length-append (flat_map whole_frame c.args.area) (0 ∷ []))) (c.in_default.ensures.room obeys))

pub returns-then-self-clause-time : goal.returns-then-self-clause-time
returns-then-self-clause-time g c =
    let disk = c.args.self.now.disk in
    leaves_same g.D.Disk.file g.D.Disk.clock g.D.Disk.since g.D.Disk.failures disk disk
    (elapses_none g.D.Disk.file g.D.Disk.clock g.D.Disk.since g.D.Disk.failures disk) (g.met.D.Disk.only_now disk) refl

pub returns-then-self-ge-SLOTS-clause-time : goal.returns-then-self-ge-SLOTS-clause-time
returns-then-self-ge-SLOTS-clause-time g c =
    let disk = c.args.self.now.disk in
    leaves_same g.D.Disk.file g.D.Disk.clock g.D.Disk.since g.D.Disk.failures disk disk
    (elapses_none g.D.Disk.file g.D.Disk.clock g.D.Disk.since g.D.Disk.failures disk) (g.met.D.Disk.only_now disk) refl

pub returns-in-Err-clause-time : goal.returns-in-Err-clause-time
returns-in-Err-clause-time g c =
    let disk = c.args.self.now.disk in
    leaves_same g.D.Disk.file g.D.Disk.clock g.D.Disk.since g.D.Disk.failures disk c.reserve.new.self
    c.reserve.ensures.time (g.met.D.Disk.only_now disk) c.reserve.ensures.same

pub returns-clause-time : goal.returns-clause-time
returns-clause-time g c =
    let disk = c.args.self.now.disk in
    leaves_same g.D.Disk.file g.D.Disk.clock g.D.Disk.since g.D.Disk.failures disk c.reserve.new.self
    c.reserve.ensures.time (g.met.D.Disk.only_now disk) c.reserve.ensures.same
