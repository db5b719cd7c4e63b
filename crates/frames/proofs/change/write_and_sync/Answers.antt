use Rattle.std.proofs.Common.{◌≡◌, ◌+◌, ℕ, Bool, if◌then◌else◌, List, length, subst, ap, arith}
use Rattle.units.specs.declared.fault.Fault.{Fault}
use Rattle.disk.specs.Image.{MayLeave, tried_write}
use Rattle.disk.specs.File.{surface, synced}
use Rattle.disk.specs.Planned.{fails, next, at_write, IsAsPlanned}
use Rattle.disk.proofs.Runs.{one_call, and_then, tried_write_more}
use Rattle.frames.proofs.Calls.{planned_ok, planned_err, first_fails, then_second, on_ok, on_err}
use Rattle.frames.proofs.change.write_and_sync.Goals as goal

pub returns-in_err-write_at-clause-planned : goal.returns-in_err-write_at-clause-planned
returns-in_err-write_at-clause-planned g c calls more room =
    let two : calls + 2 ≡ (calls + 1) + 1 = omega arith in
    let plan = g.D.Disk.plan c.args.disk.now in
    let begun = c.in_err-write_at.ensures.planned (calls + 1) more
    (subst (λ (n : ℕ). g.D.Disk.has_room c.args.disk.now n (length c.args.bytes.now + more)) two room) in
    let failed = planned_err (Unit {0}) (fails (at_write plan)) c.in_err-write_at.field-0.0 begun.0 in
    let both = first_fails c.from_residual.result (fails (at_write plan)) (fails (next (at_write plan))) c.args.at c.args.bytes.now
    (g.D.Disk.file c.args.disk.now) (g.D.Disk.file c.write_at.new.self) failed c.from_residual.ensures.0 begun.2 in
    (both.0, on_err (g.D.Disk.has_room c.write_at.new.self calls more) c.from_residual.result c.from_residual.ensures.0, both.1)

pub returns-clause-planned : goal.returns-clause-planned
returns-clause-planned g c calls more room =
    let two : calls + 2 ≡ (calls + 1) + 1 = omega arith in
    let plan = g.D.Disk.plan c.args.disk.now in
    let mid = c.write_at.new.self in
    let begun = c.in_ok-write_at.ensures.planned (calls + 1) more
    (subst (λ (n : ℕ). g.D.Disk.has_room c.args.disk.now n (length c.args.bytes.now + more)) two room) in
    let fine = planned_ok Fault (fails (at_write plan)) tt begun.0 in
    let ended = c.sync.ensures.planned calls more begun.1 in
    let is : fails (g.D.Disk.plan mid) ≡ fails (next (at_write plan)) = ap fails c.in_ok-write_at.ensures.plan in
    let both = then_second c.sync.result (fails (at_write plan)) (fails (next (at_write plan))) c.args.at c.args.bytes.now
    (g.D.Disk.file c.args.disk.now) (g.D.Disk.file mid) (g.D.Disk.file c.sync.new.self) fine begun.2
    (subst (λ (failed : Bool). IsAsPlanned failed c.sync.result) is ended.0)
    (subst (λ (failed : Bool). g.D.Disk.file c.sync.new.self ≡ (if failed then g.D.Disk.file mid else synced (g.D.Disk.file mid))) is ended.2) in
    (both.0, on_ok c.sync.result ended.1, both.1)

pub returns-in_err-write_at-clause-crash : goal.returns-in_err-write_at-clause-crash
returns-in_err-write_at-clause-crash g c keeps =
    let old = c.args.disk.now in
    let P : List ℕ → Type 0 = MayLeave (tried_write c.args.at (length c.args.bytes.now) (surface (g.D.Disk.file old))) in
    one_call g.D.Disk.file g.D.Disk.clock g.D.Disk.since g.D.Disk.failures old c.write_at.new.self P c.write_at.ensures.time
    (g.met.D.Disk.only_now old) (tried_write_more c.args.at (length c.args.bytes.now) (surface (g.D.Disk.file old))) (c.write_at.ensures.crash keeps)

pub returns-clause-crash : goal.returns-clause-crash
returns-clause-crash g c keeps =
    let old = c.args.disk.now in
    let mid = c.write_at.new.self in
    let new = c.sync.new.self in
    let P : List ℕ → Type 0 = MayLeave (tried_write c.args.at (length c.args.bytes.now) (surface (g.D.Disk.file old))) in
    let tried = c.write_at.ensures.crash keeps in
    let first = one_call g.D.Disk.file g.D.Disk.clock g.D.Disk.since g.D.Disk.failures old mid P c.write_at.ensures.time (g.met.D.Disk.only_now old)
    (tried_write_more c.args.at (length c.args.bytes.now) (surface (g.D.Disk.file old))) tried in
    let mid-keeps = keeps in
    let second = one_call g.D.Disk.file g.D.Disk.clock g.D.Disk.since g.D.Disk.failures mid new P c.sync.ensures.time
    (g.met.D.Disk.only_now mid) tried (λ image may. tried image (c.sync.ensures.crash mid-keeps image may)) in
    and_then g.D.Disk.clock g.D.Disk.since old mid new P P P first second (λ image p. p) (λ image p. p)
