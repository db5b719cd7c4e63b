use Rattle.std.proofs.Common.{◌+◌, ◌∙◌, inl, nat_lt, length, ap, subst, sym, IsFalse, Result, Ok, Err, OnOk, IfErr, Some}
use Rattle.std.proofs.lemmas.Result.{on_ok_weaker}
use Rattle.units.specs.declared.fault.Fault.{Fault}
use Rattle.disk.specs.Image.{MayLeave}
use Rattle.disk.specs.File.{surface}
use Rattle.disk.specs.Planned.{IsAsPlanned}
use Rattle.disk.proofs.Runs.{and_then}
use Rattle.frames.proofs.Calls.{planned_ok}
use Rattle.gatelog.specs.Armed.{IsArmed}
use Rattle.gatelog.specs.Crash.{IsOldOrWith}
use Rattle.gatelog.specs.Frames.{staged_bytes}
use Rattle.gatelog.specs.Log.{log}
use Rattle.gatelog.specs.Shown.{disk_of, gate_at}
use Rattle.shard.specs.Armed.{FailsIn}
use Rattle.shard.specs.Logs.{items_of, records_in}
use Rattle.shard.proofs.Appends.{begins_on, fails_in, logged-is, old_or_with}
use Rattle.shard.proofs.logging.append_record.Goals as goal

pub returns-in-Ok-clause-any_moment : goal.returns-in-Ok-clause-any_moment
returns-in-Ok-clause-any_moment g c running keeps =
    let before = g.D.Disk.file (disk_of c.args.gate_log.now) in
    let now = g.D.Disk.file (disk_of c.stage.new.self) in
    let same = c.in-Ok.ensures.same in
    let staged = c.in-Ok.staged in
    and_then g.D.Disk.clock g.D.Disk.since (disk_of c.args.gate_log.now) (disk_of c.stage.new.self) (disk_of c.append.new.self)
    (MayLeave (surface before)) (IsOldOrWith (log (surface now).seen) staged) _
    c.in-Ok.ensures.time
    (c.append.ensures.any_moment (same.1 ∙ running) keeps)
    (λ image may. inl (ap items_of (c.is_stopped.ensures.stands c.if-is_stopped.false keeps image may)))
    (old_or_with before now same.2 staged c.args.item c.in-Ok.ensures.staged.1)

pub returns-in-Ok-clause-begins : goal.returns-in-Ok-clause-begins
returns-in-Ok-clause-begins g c running keeps =
    let same = c.in-Ok.ensures.same in
    begins_on g.D.Disk.file g.D.Disk.clock g.D.Disk.since (disk_of c.args.gate_log.now) (disk_of c.stage.new.self) (disk_of c.append.new.self) same.2
    c.in-Ok.ensures.time (c.append.ensures.begins (same.1 ∙ running) keeps)

pub returns-in-Ok-clause-durable : goal.returns-in-Ok-clause-durable
returns-in-Ok-clause-durable g c =
    on_ok_weaker c.append.result
    (λ durable keeps image may.
    logged-is (g.D.Disk.file (disk_of c.args.gate_log.now)) (g.D.Disk.file (disk_of c.stage.new.self)) c.in-Ok.ensures.same.2 c.in-Ok.staged c.args.item
    c.in-Ok.ensures.staged.1 image (durable keeps image may)) c.append.ensures.durable

pub returns-in-Ok-clause-read : goal.returns-in-Ok-clause-read
returns-in-Ok-clause-read g c =
    on_ok_weaker c.append.result
    (λ read keeps.
    logged-is (g.D.Disk.file (disk_of c.args.gate_log.now)) (g.D.Disk.file (disk_of c.stage.new.self)) c.in-Ok.ensures.same.2 c.in-Ok.staged c.args.item
    c.in-Ok.ensures.staged.1 (surface (g.D.Disk.file (disk_of c.append.new.self))).seen (read keeps)) c.append.ensures.read

pub returns-in-Ok-clause-armed : goal.returns-in-Ok-clause-armed
returns-in-Ok-clause-armed g c call running obeys keeps plan =
    let same = c.in-Ok.ensures.same in
    let room = subst (λ r. g.D.Disk.has_room (disk_of c.stage.new.self) 4 (length (staged_bytes r) + 1)) (sym c.in-Ok.ensures.staged.1)
    (c.in-Ok.ensures.room obeys) in
    by_result c.append.result (c.append.ensures.armed call (same.1 ∙ running) keeps room (c.in-Ok.ensures.plan ∙ plan))
  where
    by_result : {T : Type 0} (r : Result T Fault)
        → IsAsPlanned (nat_lt call 4) r × IsArmed call (log (surface (g.D.Disk.file (disk_of c.stage.new.self))).seen) c.in-Ok.staged
        (g.D.Disk.file (disk_of c.append.new.self))
        → OnOk r (IsFalse (nat_lt call 4)) × IfErr r (FailsIn call (gate_at c.args.gate_log.now)
        (records_in (surface (g.D.Disk.file (disk_of c.args.gate_log.now))).seen) (Some c.args.item) (g.D.Disk.file (disk_of c.append.new.self)))
    by_result (Ok logged) armed = (planned_ok Fault (nat_lt call 4) logged armed.0, tt)
    by_result {T = T} (Err fault) armed = (
      tt,
      fails_in (g.D.Disk.file (disk_of c.args.gate_log.now)) (g.D.Disk.file (disk_of c.stage.new.self)) c.in-Ok.ensures.same.2 c.in-Ok.staged c.args.item
          c.in-Ok.ensures.staged.1 T call (gate_at c.args.gate_log.now) (g.D.Disk.file (disk_of c.append.new.self)) fault c.in-Ok.ensures.running.1 armed,
    )
