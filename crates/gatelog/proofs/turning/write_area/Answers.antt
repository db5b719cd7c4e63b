use Rattle.std.proofs.Common.{◌≡◌, ◌+◌, ◌*◌, ℕ, List, length, ◌∙◌, refl, sym, subst, ap, arith}
use Rattle.std.proofs.lemmas.List.{append-nil}
use Rattle.units.specs.declared.fault.Fault.{Fault}
use Rattle.spelling.proofs.Again.{wide64}
use Rattle.disk.specs.Image.{MayLeave, tried_write}
use Rattle.disk.specs.File.{surface}
use Rattle.disk.specs.Planned.{fails, at_write}
use Rattle.disk.proofs.Runs.{one_call, weaker, and_then, tried_write_more}
use Rattle.gatelog.specs.Crash.{IsOldOrNew}
use Rattle.gatelog.specs.Slots.{offset_bytes}
use Rattle.frames.proofs.Calls.{planned_ok, planned_err, on_map}
use Rattle.gatelog.proofs.Turned.{may-turn, within-file, while-first, mid-area, slot-inside, while-last, is-done, change-is, failed-first, went-on, armed-turn}
use Rattle.gatelog.proofs.turning.write_area.Goals as goal

pub write_at-requires : goal.write_at-requires
write_at-requires g c keeps =
    let s = c.args.staged.now in
    let may = may-turn (surface (g.D.Disk.file c.args.disk.now)) s.gate s.slot s.items (c.requires.synced keeps) (c.requires.whole keeps)
    (c.requires.next keeps) (omega (arith, c.slot-slot.ensures.slot, c.slot-slot.ensures.within)) c.bytes.ensures.fit
    (omega (arith, c.gate-gate.ensures.gate, c.gate-gate.ensures.small)) in
    omega (arith, c.gate-gate.ensures.gate, within-file (surface (g.D.Disk.file c.args.disk.now)) may.0 s.gate s.slot s.items may.1)

pub returns-in_err-write_at-clause-any_moment : goal.returns-in_err-write_at-clause-any_moment
returns-in_err-write_at-clause-any_moment g c keeps =
    let s = c.args.staged.now in
    let old = c.args.disk.now in
    let file = surface (g.D.Disk.file old) in
    let new = c.write_at.new.self in
    let at = c.gate-gate.result + 1 in
    let bytes = c.bytes.result.now in
    let may = may-turn file s.gate s.slot s.items (c.requires.synced keeps) (c.requires.whole keeps) (c.requires.next keeps)
    (omega (arith, c.slot-slot.ensures.slot, c.slot-slot.ensures.within)) c.bytes.ensures.fit
    (omega (arith, c.gate-gate.ensures.gate, c.gate-gate.ensures.small)) in
    let P : List ℕ → Type 0 = MayLeave (tried_write at (length bytes) file) in
    let run = one_call g.D.Disk.file g.D.Disk.clock g.D.Disk.since g.D.Disk.failures old new P c.write_at.ensures.time
    (g.met.D.Disk.only_now old) (tried_write_more at (length bytes) file) (c.write_at.ensures.crash keeps) in
    weaker g.D.Disk.clock g.D.Disk.since old new P (IsOldOrNew file.seen s.gate s.slot s.items) run
    (while-first file may.0 s.gate s.slot s.items may.1 at bytes (omega (arith, c.gate-gate.ensures.gate)) c.bytes.ensures.bytes)

pub returns-in_err-write_at-clause-planned : goal.returns-in_err-write_at-clause-planned
returns-in_err-write_at-clause-planned g c room =
    let s = c.args.staged.now in
    let old = c.args.disk.now in
    let plan = g.D.Disk.plan old in
    let bytes = c.bytes.result.now in
    let begun = c.in_err-write_at.ensures.planned 4 9
    (subst (λ (l : List ℕ). g.D.Disk.has_room old 5 (length l + 9)) (sym c.bytes.ensures.bytes) room) in
    failed-first c.from_residual.result plan s.gate s.slot s.items (g.D.Disk.file old) (g.D.Disk.file c.write_at.new.self) (g.D.Disk.file c.write_at.new.self)
    (change-is (fails (at_write plan)) s.gate (c.gate-gate.result + 1) s.items bytes (g.D.Disk.file old) (g.D.Disk.file c.write_at.new.self)
    (omega (arith, c.gate-gate.ensures.gate)) c.bytes.ensures.bytes begun.2)
    (planned_err (Unit {0}) (fails (at_write plan)) c.in_err-write_at.field-0.0 begun.0) c.from_residual.ensures.0 refl

pub returns-in_err-write_at-clause-armed : goal.returns-in_err-write_at-clause-armed
returns-in_err-write_at-clause-armed g c call keeps room plan-is =
    let s = c.args.staged.now in
    let old = c.args.disk.now in
    let may = may-turn (surface (g.D.Disk.file old)) s.gate s.slot s.items (c.requires.synced keeps) (c.requires.whole keeps) (c.requires.next keeps)
    (omega (arith, c.slot-slot.ensures.slot, c.slot-slot.ensures.within)) c.bytes.ensures.fit
    (omega (arith, c.gate-gate.ensures.gate, c.gate-gate.ensures.small)) in
    armed-turn c.from_residual.result (g.D.Disk.plan old) may.0 s.gate s.slot s.items (g.D.Disk.file old) (g.D.Disk.file c.write_at.new.self) may.1 call
    plan-is (returns-in_err-write_at-clause-planned g c room)

pub open_behind-requires-clause-inside : goal.open_behind-requires-clause-inside
open_behind-requires-clause-inside g c keeps =
    let s = c.args.staged.now in
    let file = surface (g.D.Disk.file c.args.disk.now) in
    let mid = surface (g.D.Disk.file c.write_at.new.self) in
    let may = may-turn file s.gate s.slot s.items (c.requires.synced keeps) (c.requires.whole keeps) (c.requires.next keeps)
    (omega (arith, c.slot-slot.ensures.slot, c.slot-slot.ensures.within)) c.bytes.ensures.fit
    (omega (arith, c.gate-gate.ensures.gate, c.gate-gate.ensures.small)) in
    slot-inside file may.0 s.gate s.slot s.items may.1 mid (8 + 9 * c.slot-slot.result)
    (mid-area file may.0 s.gate s.slot s.items may.1 (c.gate-gate.result + 1) c.bytes.result.now (omega (arith, c.gate-gate.ensures.gate))
    c.bytes.ensures.bytes mid (c.in_ok-write_at.ensures.written keeps))
    (omega (arith, c.slot-slot.ensures.slot))

-- what the last four calls get
module _ (g : _) (c : goal.After-open_behind g) where
  offset-is : c.write_u64.new.buf ≡ offset_bytes (c.args.staged.now.gate + 1)
  offset-is =
      c.write_u64.ensures ∙ append-nil (offset_bytes (c.gate-gate.result + 1)) ∙ ap offset_bytes (omega (arith, c.gate-gate.ensures.gate))

  eight : length c.write_u64.new.buf ≡ 8
  eight = ap length offset-is ∙ wide64.len (c.args.staged.now.gate + 1)

pub returns-clause-any_moment : goal.returns-clause-any_moment
returns-clause-any_moment g c keeps =
    let s = c.args.staged.now in
    let old = c.args.disk.now in
    let file = surface (g.D.Disk.file old) in
    let mid = c.write_at.new.self in
    let at = c.gate-gate.result + 1 in
    let bytes = c.bytes.result.now in
    let at-is : at ≡ s.gate + 1 = omega (arith, c.gate-gate.ensures.gate) in
    let may = may-turn file s.gate s.slot s.items (c.requires.synced keeps) (c.requires.whole keeps) (c.requires.next keeps)
    (omega (arith, c.slot-slot.ensures.slot, c.slot-slot.ensures.within)) c.bytes.ensures.fit
    (omega (arith, c.gate-gate.ensures.gate, c.gate-gate.ensures.small)) in
    let P : List ℕ → Type 0 = MayLeave (tried_write at (length bytes) file) in
    let run = one_call g.D.Disk.file g.D.Disk.clock g.D.Disk.since g.D.Disk.failures old mid P c.write_at.ensures.time
    (g.met.D.Disk.only_now old) (tried_write_more at (length bytes) file) (c.write_at.ensures.crash keeps) in
    and_then g.D.Disk.clock g.D.Disk.since old mid c.open_behind.new.disk P _ (IsOldOrNew file.seen s.gate s.slot s.items) run
    (c.open_behind.ensures.any_moment keeps)
    (while-first file may.0 s.gate s.slot s.items may.1 at bytes at-is c.bytes.ensures.bytes)
    (while-last file may.0 s.gate s.slot s.items may.1 (surface (g.D.Disk.file mid)) (8 + 9 * c.slot-slot.result) c.write_u64.new.buf
    (mid-area file may.0 s.gate s.slot s.items may.1 at bytes at-is c.bytes.ensures.bytes (surface (g.D.Disk.file mid))
    (c.in_ok-write_at.ensures.written keeps))
    (omega (arith, c.slot-slot.ensures.slot)) (offset-is g c))

pub returns-clause-done : goal.returns-clause-done
returns-clause-done g c = on_map c.open_behind.result (λ done keeps.
    let s = c.args.staged.now in
    let file = surface (g.D.Disk.file c.args.disk.now) in
    let mid = surface (g.D.Disk.file c.write_at.new.self) in
    let may = may-turn file s.gate s.slot s.items (c.requires.synced keeps) (c.requires.whole keeps) (c.requires.next keeps)
    (omega (arith, c.slot-slot.ensures.slot, c.slot-slot.ensures.within)) c.bytes.ensures.fit
    (omega (arith, c.gate-gate.ensures.gate, c.gate-gate.ensures.small)) in
    is-done file may.0 s.gate s.slot s.items may.1 mid (8 + 9 * c.slot-slot.result) c.write_u64.new.buf
    (mid-area file may.0 s.gate s.slot s.items may.1 (c.gate-gate.result + 1) c.bytes.result.now (omega (arith, c.gate-gate.ensures.gate))
    c.bytes.ensures.bytes mid (c.in_ok-write_at.ensures.written keeps))
    (omega (arith, c.slot-slot.ensures.slot)) (offset-is g c) (surface (g.D.Disk.file c.open_behind.new.disk)) (done keeps))
    c.open_behind.ensures.done

pub returns-clause-planned : goal.returns-clause-planned
returns-clause-planned g c room =
    let s = c.args.staged.now in
    let old = c.args.disk.now in
    let mid = c.write_at.new.self in
    let plan = g.D.Disk.plan old in
    let begun = c.in_ok-write_at.ensures.planned 4 9
    (subst (λ (l : List ℕ). g.D.Disk.has_room old 5 (length l + 9)) (sym c.bytes.ensures.bytes) room) in
    let ended = c.open_behind.ensures.planned (subst (λ (n : ℕ). g.D.Disk.has_room mid 4 (n + 1)) (sym (eight g c)) begun.1) in
    went-on c.open_behind.result plan s.gate s.slot s.items (g.D.Disk.file old) (g.D.Disk.file mid) (g.D.Disk.file c.open_behind.new.disk)
    (change-is (fails (at_write plan)) s.gate (c.gate-gate.result + 1) s.items c.bytes.result.now (g.D.Disk.file old) (g.D.Disk.file mid)
    (omega (arith, c.gate-gate.ensures.gate)) c.bytes.ensures.bytes begun.2)
    (g.D.Disk.plan mid) (8 + 9 * c.slot-slot.result) c.write_u64.new.buf (planned_ok Fault (fails (at_write plan)) tt begun.0) c.in_ok-write_at.ensures.plan
    (omega (arith, c.slot-slot.ensures.slot)) (offset-is g c) ended.0 ended.1

pub returns-clause-armed : goal.returns-clause-armed
returns-clause-armed g c call keeps room plan-is =
    let s = c.args.staged.now in
    let old = c.args.disk.now in
    let may = may-turn (surface (g.D.Disk.file old)) s.gate s.slot s.items (c.requires.synced keeps) (c.requires.whole keeps) (c.requires.next keeps)
    (omega (arith, c.slot-slot.ensures.slot, c.slot-slot.ensures.within)) c.bytes.ensures.fit
    (omega (arith, c.gate-gate.ensures.gate, c.gate-gate.ensures.small)) in
    armed-turn c.open_behind.result (g.D.Disk.plan old) may.0 s.gate s.slot s.items (g.D.Disk.file old) (g.D.Disk.file c.open_behind.new.disk) may.1 call
    plan-is (returns-clause-planned g c room)
