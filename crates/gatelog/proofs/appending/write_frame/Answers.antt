use Rattle.std.proofs.Common.{◌≡◌, ◌+◌, ℕ, List, [], ◌∷◌, length, Bool, Result, refl, sym, ◌∙◌, subst, ap, arith}
use Rattle.std.specs.Prelude.{IsTrue, nat_lt}
use Rattle.disk.specs.Image.{Surface, IsSynced, after_write, after_sync}
use Rattle.disk.specs.File.{File, surface}
use Rattle.disk.specs.Moments.{LeavesOnly}
use Rattle.disk.proofs.Runs.{weaker}
use Rattle.units.specs.declared.fault.Fault.{Fault}
use Rattle.disk.specs.declared.plan.FailurePlan.{FailurePlan}
use Rattle.disk.specs.declared.plan.FailurePlan.TheVariants.{AfterWrite}
use Rattle.record.specs.declared.record.Record.{Record}
use Rattle.spelling.specs.Limits.{IsRecord}
use Rattle.disk.specs.Planned.{IsAsPlanned}
use Rattle.frames.specs.Placed.{Placed}
use Rattle.frames.specs.Calls.{fails_in_append, appended}
use Rattle.frames.specs.Gate.{open_gate}
use Rattle.frames.proofs.Calls.{on_map}
use Rattle.gatelog.specs.Armed.{IsArmed}
use Rattle.gatelog.specs.Crash.{IsOldOrWith}
use Rattle.gatelog.specs.Frames.{staged_bytes, next_gate}
use Rattle.gatelog.specs.Log.{log, scan, ends_at, and_entry}
use Rattle.gatelog.specs.Slots.{begins_in}
use Rattle.gatelog.specs.Turns.{IsNextOrNone}
use Rattle.gatelog.proofs.Armed.{fails_by_call, armed_is}
use Rattle.gatelog.proofs.Goes.{gate_within}
use Rattle.gatelog.proofs.Images.{ends_found, old-or-with, begins-on, log-opened, ends-opened}
use Rattle.gatelog.proofs.Next.{next-appended}
use Rattle.gatelog.proofs.appending.write_frame.Goals as goal

pub open_behind-requires-clause-small : goal.open_behind-requires-clause-small
open_behind-requires-clause-small g c = omega (arith, c.staged.invariant.2)

pub open_behind-requires-clause-inside : goal.open_behind-requires-clause-inside
open_behind-requires-clause-inside g c keeps =
    let seen = (surface (g.D.Disk.file c.args.disk.now)).seen in
    let found = ends_found (scan seen) c.args.staged.now.offset (c.requires.whole keeps) in
    let gate-is : c.staged.inside.gate ≡ c.args.staged.now.offset = ap (λ (e : Placed). e.offset) c.staged.view_is in
    omega (arith, gate-is, (gate_within seen found.0 c.args.staged.now.offset found.1).1)

-- what is written, and where
module _ (g : _) (c : goal.After-open_behind g) where
  gate-is : c.staged.inside.gate ≡ c.args.staged.now.offset
  gate-is = ap (λ (e : Placed). e.offset) c.staged.view_is

  text-is : c.deref.result.now ≡ staged_bytes c.staged.inside.item
  text-is = c.deref.ensures.value ∙ c.staged.invariant.0

  bytes-is : c.deref.result.now ≡ staged_bytes c.args.staged.now.item
  bytes-is = text-is ∙ ap (λ (e : Placed). staged_bytes e.item) c.staged.view_is

  whole : g.D.Disk.keeps_model → IsTrue (ends_at (surface (g.D.Disk.file c.args.disk.now)).seen c.staged.inside.gate)
  whole keeps = subst (λ (n : ℕ). IsTrue (ends_at (surface (g.D.Disk.file c.args.disk.now)).seen n)) (sym gate-is) (c.requires.whole keeps)

-- the log is as it was, or has the record
pub returns-clause-any_moment : goal.returns-clause-any_moment
returns-clause-any_moment g c keeps =
    let old = c.args.disk.now in
    let new = c.open_behind.new.disk in
    let inside = c.staged.inside in
    let file = surface (g.D.Disk.file old) in
    let run = weaker g.D.Disk.clock g.D.Disk.since old new _ (IsOldOrWith (log file.seen) (record { offset = inside.gate; item = inside.item }))
    (c.open_behind.ensures.any_moment keeps)
    (old-or-with file inside.gate inside.item (c.requires.synced keeps) (whole g c keeps) c.staged.invariant.1 c.deref.result.now (text-is g c)) in
    subst (λ (e : Placed). LeavesOnly g.D.Disk.clock g.D.Disk.since old new (IsOldOrWith (log file.seen) e)) c.staged.view_is run

-- and begins where it began
pub returns-clause-begins : goal.returns-clause-begins
returns-clause-begins g c keeps =
    let old = c.args.disk.now in
    let inside = c.staged.inside in
    let file = surface (g.D.Disk.file old) in
    weaker g.D.Disk.clock g.D.Disk.since old c.open_behind.new.disk _ (λ (image : List ℕ). begins_in image ≡ begins_in file.seen)
    (c.open_behind.ensures.any_moment keeps)
    (begins-on file inside.gate inside.item (c.requires.synced keeps) (whole g c keeps) c.staged.invariant.1 c.deref.result.now (text-is g c))

-- and then the record is on the disk
pub returns-clause-done : goal.returns-clause-done
returns-clause-done g c = on_map c.open_behind.result (λ done keeps.
    let inside = c.staged.inside in
    let file = surface (g.D.Disk.file c.args.disk.now) in
    let new = surface (g.D.Disk.file c.open_behind.new.disk) in
    let end : new ≡ after_sync (after_write inside.gate (open_gate ∷ []) (after_sync (after_write (inside.gate + 1) (staged_bytes inside.item) file))) =
    done keeps ∙ ap (λ (l : List ℕ). after_sync (after_write inside.gate (open_gate ∷ []) (after_sync (after_write (inside.gate + 1) l file))))
    (text-is g c) in
    let ends = ends-opened file inside.gate inside.item (c.requires.synced keeps) (whole g c keeps) c.staged.invariant.1 in
    let stands = log-opened file inside.gate inside.item (c.requires.synced keeps) (whole g c keeps) c.staged.invariant.1 in (
      subst IsSynced (sym end) (record { whole = refl; none = refl; synced = refl }),
      subst (λ (e : Placed). IsTrue (ends_at new.seen (next_gate e.offset e.item))) c.staged.view_is
          (ap (λ (f : Surface). ends_at f.seen (next_gate inside.gate inside.item)) end ∙ ends),
      ap (λ (f : Surface). log f.seen) end ∙ stands ∙ ap (λ (e : Placed). and_entry (log file.seen) e) c.staged.view_is,
    )) c.open_behind.ensures.done

pub returns-clause-next : goal.returns-clause-next
returns-clause-next g c = on_map c.open_behind.result (λ done slot keeps next.
    let seen = (surface (g.D.Disk.file c.args.disk.now)).seen in
    let found = ends_found (scan seen) c.staged.inside.gate (whole g c keeps) in
    subst (λ (l : List ℕ). IsNextOrNone l slot) (sym (ap (λ (f : Surface). f.seen) (done keeps)))
    (next-appended seen found.0 c.staged.inside.gate slot c.deref.result.now found.1 next)) c.open_behind.ensures.done

pub returns-clause-planned : goal.returns-clause-planned
returns-clause-planned g c room =
    let old = c.args.disk.now in
    let plan = g.D.Disk.plan old in
    let file = g.D.Disk.file old in
    let ended = c.open_behind.ensures.planned (subst (λ (l : List ℕ). g.D.Disk.has_room old 4 (length l + 1)) (sym (bytes-is g c)) room) in (
      ended.0,
      ended.1 ∙ ap (λ (n : ℕ). appended plan n c.deref.result.now file) (gate-is g c)
          ∙ ap (λ (l : List ℕ). appended plan c.args.staged.now.offset l file) (bytes-is g c),
    )

-- the same for an armed call, in terms of the log
module _ (file new : File) (plan : FailurePlan) (at inside : ℕ) (item : Record) (entry : Placed)
    (entry-is : ◌≡◌ {A = Placed} (record { offset = inside; item = item }) entry) (synced : IsSynced (surface file))
    (whole : IsTrue (ends_at (surface file).seen at)) (at-is : inside ≡ at) (fits : IsRecord item) where
  armed_by_plan : {T : Type 0} (result : Result T Fault) (call : ℕ) → plan ≡ AfterWrite call → IsAsPlanned (fails_in_append plan) result →
      new ≡ appended plan entry.offset (staged_bytes entry.item) file
      → IsAsPlanned (nat_lt call 4) result × IsArmed call (log (surface file).seen) entry new
  armed_by_plan result call plan-is planned new-is =
      let is : new ≡ appended (AfterWrite call) inside (staged_bytes item) file = new-is ∙ ap
      (λ (p : FailurePlan). appended p entry.offset (staged_bytes entry.item) file) plan-is ∙ ap
      (λ (e : Placed). appended (AfterWrite call) e.offset (staged_bytes e.item) file) (sym entry-is) in
      let there : IsTrue (ends_at (surface file).seen inside) = subst (λ (n : ℕ). IsTrue (ends_at (surface file).seen n)) (sym at-is) whole in
      let armed = armed_is file inside item synced there fits call in (
        subst (λ (b : Bool). IsAsPlanned b result) (ap fails_in_append plan-is ∙ fails_by_call call) planned,
        subst (λ (f : File). IsArmed call (log (surface file).seen) entry f) (sym is) (subst
            (λ (e : Placed). IsArmed call (log (surface file).seen) e (appended (AfterWrite call) inside (staged_bytes item) file)) entry-is armed),
      )

pub returns-clause-armed : goal.returns-clause-armed
returns-clause-armed g c call keeps room plan-is =
    let old = c.args.disk.now in
    let inside = c.staged.inside in
    let planned = returns-clause-planned g c room in
    armed_by_plan (g.D.Disk.file old) (g.D.Disk.file c.open_behind.new.disk) (g.D.Disk.plan old) c.args.staged.now.offset inside.gate
    inside.item c.args.staged.now c.staged.view_is (c.requires.synced keeps) (c.requires.whole keeps) (gate-is g c) c.staged.invariant.1
    c.open_behind.result call plan-is planned.0 planned.1
