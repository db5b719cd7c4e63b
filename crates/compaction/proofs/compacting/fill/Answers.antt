use Rattle.std.proofs.Common.{◌≡◌, ◌∙◌, ◌+◌, inl, inr, [], Ok, ap}
use Rattle.std.proofs.lemmas.Result.{on_ok_weaker}
use Rattle.disk.specs.File.{surface}
use Rattle.disk.specs.Image.{MayLeave}
use Rattle.disk.proofs.Runs.{and_then}
use Rattle.gatelog.specs.Crash.{IsOldOrNew}
use Rattle.gatelog.specs.Log.{log}
use Rattle.gatelog.specs.Shown.{disk_of}
use Rattle.compaction.specs.Compacted.{HasNoneOrThese}
use Rattle.compaction.proofs.Filled.{area-records, none-or-area}
use Rattle.compaction.proofs.compacting.fill.Goals as goal

pub returns-in-Ok-clause-any_moment : goal.returns-in-Ok-clause-any_moment
returns-in-Ok-clause-any_moment g c keeps =
    let old = disk_of c.args.log.now in
    let mid = disk_of c.stage_area.new.self in
    let seen = (surface (g.D.Disk.file mid)).seen in
    let staged = c.in-Ok.staged in
    let same = c.in-Ok.ensures.same in
    let empty : log seen ≡ Ok [] =
    ap (λ f. log (surface f).seen) same.3
    ∙ c.requires.empty keeps (surface (g.D.Disk.file old)).seen (g.met.D.Disk.reads_now old) in
    and_then g.D.Disk.clock g.D.Disk.since old mid (disk_of c.turn_over.new.self) (MayLeave (surface (g.D.Disk.file old)))
    (IsOldOrNew seen staged.gate staged.slot staged.items) (HasNoneOrThese (Ok c.args.area)) c.in-Ok.ensures.time
    (c.turn_over.ensures.any_moment (same.2 ∙ c.requires.running) keeps) (λ image left. inr (inl (c.requires.empty keeps image left)))
    (λ image. none-or-area seen staged.gate staged.slot staged.items c.args.area image c.in-Ok.ensures.staged.0 empty)

pub returns-in-Ok-clause-durable : goal.returns-in-Ok-clause-durable
returns-in-Ok-clause-durable g c =
    on_ok_weaker c.turn_over.result (λ stands keeps image left.
    area-records image (c.in-Ok.staged.gate + 1) c.in-Ok.staged.items c.args.area c.in-Ok.ensures.staged.0 (stands keeps image left))
    c.turn_over.ensures.durable

pub returns-in-Ok-clause-read : goal.returns-in-Ok-clause-read
returns-in-Ok-clause-read g c =
    on_ok_weaker c.turn_over.result (λ read keeps.
    area-records _ (c.in-Ok.staged.gate + 1) c.in-Ok.staged.items c.args.area c.in-Ok.ensures.staged.0 (read keeps))
    c.turn_over.ensures.read
