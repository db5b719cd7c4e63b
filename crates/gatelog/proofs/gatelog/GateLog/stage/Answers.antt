use Rattle.std.proofs.Common.{◌≡◌, ◌+◌, length, refl, sym, arith}
use Rattle.spelling.specs.Grammar.{spelling}
use Rattle.gatelog.specs.Frames.{staged_bytes}
use Rattle.frames.proofs.Calls.{on_any}
use Rattle.gatelog.proofs.Elapsed.{elapses_none, leaves_same}
use Rattle.gatelog.proofs.Images.{bytes-size}
use Rattle.gatelog.proofs.gatelog.GateLog.stage.Goals as goal

pub returns-clause-room : goal.returns-clause-room
returns-clause-room g c = on_any c.at.result _ (λ obeys.
    let size : length (spelling c.args.item) ≡ c.encoded_len-size.result = sym c.encoded_len-size.ensures.value in
    g.met.D.Disk.room_less c.reserve.new.self 8 (c.encoded_len-size.result + 6) 4 (length (staged_bytes c.args.item) + 1) (omega arith)
    (omega (arith, size, bytes-size 0 c.args.item)) (c.in_default.ensures.room obeys))

pub returns-then-self-clause-time : goal.returns-then-self-clause-time
returns-then-self-clause-time g c =
    let disk = c.args.self.now.disk in
    leaves_same g.D.Disk.file g.D.Disk.clock g.D.Disk.since g.D.Disk.failures disk disk
    (elapses_none g.D.Disk.file g.D.Disk.clock g.D.Disk.since g.D.Disk.failures disk) (g.met.D.Disk.only_now disk) refl

pub returns-then-not-has_place-clause-time : goal.returns-then-not-has_place-clause-time
returns-then-not-has_place-clause-time g c =
    let disk = c.args.self.now.disk in
    leaves_same g.D.Disk.file g.D.Disk.clock g.D.Disk.since g.D.Disk.failures disk disk
    (elapses_none g.D.Disk.file g.D.Disk.clock g.D.Disk.since g.D.Disk.failures disk) (g.met.D.Disk.only_now disk) refl

pub returns-in-Err-clause-time : goal.returns-in-Err-clause-time
returns-in-Err-clause-time g c =
    let disk = c.args.self.now.disk in
    leaves_same g.D.Disk.file g.D.Disk.clock g.D.Disk.since g.D.Disk.failures disk c.reserve.new.self
    c.reserve.ensures.time (g.met.D.Disk.only_now disk) c.reserve.ensures.same

pub returns-clause-time : goal.returns-clause-time
returns-clause-time g c =
    let disk = c.args.self.now.disk in
    leaves_same g.D.Disk.file g.D.Disk.clock g.D.Disk.since g.D.Disk.failures disk c.reserve.new.self
    c.reserve.ensures.time (g.met.D.Disk.only_now disk) c.reserve.ensures.same
