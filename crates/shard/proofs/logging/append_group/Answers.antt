use Rattle.std.proofs.Common.{◌≡◌, inr}
use Rattle.std.proofs.lemmas.Result.{on_ok_weaker}
use Rattle.disk.specs.File.{surface}
use Rattle.disk.proofs.Runs.{weaker}
use Rattle.gatelog.specs.Groups.{IsOldOrWithAll, joined}
use Rattle.gatelog.specs.Log.{log}
use Rattle.gatelog.specs.Shown.{disk_of}
use Rattle.gatelog.specs.Slots.{begins_in}
use Rattle.shard.specs.Logs.{BeginsAsBefore}
use Rattle.shard.proofs.Groups.{group-is, old_or_with_all}
use Rattle.shard.proofs.logging.append_group.Goals as goal

pub returns-clause-any_moment : goal.returns-clause-any_moment
returns-clause-any_moment g c keeps =
    let before = g.D.Disk.file (disk_of c.args.gate_log.now) in
    weaker g.D.Disk.clock g.D.Disk.since (disk_of c.args.gate_log.now) (disk_of c.append_all.new.self)
    (IsOldOrWithAll (log (surface before).seen) (joined c.args.group)) _
    (c.append_all.ensures.any_moment c.requires.running keeps) (old_or_with_all before c.args.group)

pub returns-clause-begins : goal.returns-clause-begins
returns-clause-begins g c keeps =
    let before = surface (g.D.Disk.file (disk_of c.args.gate_log.now)) in
    weaker g.D.Disk.clock g.D.Disk.since (disk_of c.args.gate_log.now) (disk_of c.append_all.new.self) (λ image. begins_in image ≡ begins_in before.seen)
    (BeginsAsBefore before) (c.append_all.ensures.begins c.requires.running keeps) (λ image is. inr is)

pub returns-clause-durable : goal.returns-clause-durable
returns-clause-durable g c =
    let before = g.D.Disk.file (disk_of c.args.gate_log.now) in
    on_ok_weaker c.append_all.result
    (λ durable keeps image may. group-is before c.args.group image (durable keeps image may))
    c.append_all.ensures.durable

pub returns-clause-read : goal.returns-clause-read
returns-clause-read g c =
    let before = g.D.Disk.file (disk_of c.args.gate_log.now) in
    on_ok_weaker c.append_all.result
    (λ read keeps. group-is before c.args.group (surface (g.D.Disk.file (disk_of c.append_all.new.self))).seen (read keeps))
    c.append_all.ensures.read
