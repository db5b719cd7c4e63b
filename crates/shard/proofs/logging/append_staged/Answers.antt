use Rattle.std.proofs.Common.{◌≡◌, refl, nat_lt, inr, IsFalse, Result, Ok, Err, OnOk, IfErr, Some}
use Rattle.std.proofs.lemmas.Result.{on_ok_weaker}
use Rattle.units.specs.declared.fault.Fault.{Fault}
use Rattle.disk.specs.File.{surface}
use Rattle.disk.specs.Planned.{IsAsPlanned}
use Rattle.disk.proofs.Runs.{weaker}
use Rattle.gatelog.specs.Armed.{IsArmed}
use Rattle.gatelog.specs.Crash.{IsOldOrWith}
use Rattle.gatelog.specs.Log.{log}
use Rattle.gatelog.specs.Shown.{disk_of, gate_at}
use Rattle.gatelog.specs.Slots.{begins_in}
use Rattle.shard.specs.Armed.{FailsIn}
use Rattle.shard.specs.Logs.{records_in, BeginsAsBefore}
use Rattle.frames.proofs.Calls.{planned_ok}
use Rattle.shard.proofs.Appends.{fails_in, logged-is, old_or_with}
use Rattle.shard.proofs.logging.append_staged.Goals as goal

pub returns-clause-any_moment : goal.returns-clause-any_moment
returns-clause-any_moment g c keeps =
    let before = g.D.Disk.file (disk_of c.args.gate_log.now) in
    weaker g.D.Disk.clock g.D.Disk.since (disk_of c.args.gate_log.now) (disk_of c.append.new.self) (IsOldOrWith (log (surface before).seen) c.args.staged) _
    (c.append.ensures.any_moment c.requires.running keeps) (old_or_with before before refl c.args.staged c.args.staged.item refl)

pub returns-clause-begins : goal.returns-clause-begins
returns-clause-begins g c keeps =
    let before = surface (g.D.Disk.file (disk_of c.args.gate_log.now)) in
    weaker g.D.Disk.clock g.D.Disk.since (disk_of c.args.gate_log.now) (disk_of c.append.new.self) (λ image. begins_in image ≡ begins_in before.seen)
    (BeginsAsBefore before) (c.append.ensures.begins c.requires.running keeps) (λ image is. inr is)

pub returns-clause-durable : goal.returns-clause-durable
returns-clause-durable g c =
    let before = g.D.Disk.file (disk_of c.args.gate_log.now) in
    on_ok_weaker c.append.result
    (λ durable keeps image may. logged-is before before refl c.args.staged c.args.staged.item refl image (durable keeps image may))
    c.append.ensures.durable

pub returns-clause-read : goal.returns-clause-read
returns-clause-read g c =
    let before = g.D.Disk.file (disk_of c.args.gate_log.now) in
    on_ok_weaker c.append.result
    (λ read keeps. logged-is before before refl c.args.staged c.args.staged.item refl (surface (g.D.Disk.file (disk_of c.append.new.self))).seen
    (read keeps)) c.append.ensures.read

pub returns-clause-armed : goal.returns-clause-armed
returns-clause-armed g c call obeys keeps plan =
    by_result c.append.result (c.append.ensures.armed call c.requires.running keeps (c.requires.room obeys) plan)
  where
    by_result : {T : Type 0} (r : Result T Fault)
        → IsAsPlanned (nat_lt call 4) r × IsArmed call (log (surface (g.D.Disk.file (disk_of c.args.gate_log.now))).seen) c.args.staged
        (g.D.Disk.file (disk_of c.append.new.self))
        → OnOk r (IsFalse (nat_lt call 4)) × IfErr r (FailsIn call (gate_at c.args.gate_log.now)
        (records_in (surface (g.D.Disk.file (disk_of c.args.gate_log.now))).seen) (Some c.args.staged.item) (g.D.Disk.file (disk_of c.append.new.self)))
    by_result (Ok logged) armed = (planned_ok Fault (nat_lt call 4) logged armed.0, tt)
    by_result {T = T} (Err fault) armed = (
      tt,
      fails_in (g.D.Disk.file (disk_of c.args.gate_log.now)) (g.D.Disk.file (disk_of c.args.gate_log.now)) refl c.args.staged c.args.staged.item refl
          T call (gate_at c.args.gate_log.now) (g.D.Disk.file (disk_of c.append.new.self)) fault c.requires.place armed,
    )
