use Rattle.std.proofs.Common.{◌≡◌, ◌+◌, ℕ, List, [], ◌∷◌, refl, sym, ◌∙◌, subst, ap, arith}
use Rattle.std.specs.Prelude.{IsTrue}
use Rattle.disk.specs.Image.{Surface, IsSynced, after_write, after_sync}
use Rattle.disk.specs.File.{surface}
use Rattle.disk.proofs.Runs.{weaker}
use Rattle.frames.specs.Gate.{open_gate}
use Rattle.frames.proofs.Calls.{on_map}
use Rattle.gatelog.specs.Frames.{end_from}
use Rattle.gatelog.specs.Groups.{group_bytes, joined, IsOldOrWithAll}
use Rattle.gatelog.specs.Log.{log, scan, ends_at}
use Rattle.gatelog.specs.Slots.{begins_in}
use Rattle.gatelog.specs.Turns.{IsNextOrNone}
use Rattle.gatelog.proofs.Goes.{gate_within}
use Rattle.gatelog.proofs.Groups.{old-or-with-all, begins-with-all, done-with-all}
use Rattle.gatelog.proofs.Images.{ends_found}
use Rattle.gatelog.proofs.Next.{next-appended}
use Rattle.gatelog.proofs.joining.write_group.Goals as goal

pub open_behind-requires-clause-small : goal.open_behind-requires-clause-small
open_behind-requires-clause-small g c = omega (arith, c.gate-gate.ensures.small c.requires.some)

pub open_behind-requires-clause-inside : goal.open_behind-requires-clause-inside
open_behind-requires-clause-inside g c keeps =
    let group = c.args.group.now in
    let seen = (surface (g.D.Disk.file c.args.disk.now)).seen in
    let found = ends_found (scan seen) group.gate (c.requires.whole keeps) in
    omega (arith, c.gate-gate.ensures.gate, (gate_within seen found.0 group.gate found.1).1)

-- the log is as it was, or has all the records
pub returns-clause-any_moment : goal.returns-clause-any_moment
returns-clause-any_moment g c keeps =
    let group = c.args.group.now in
    let old = c.args.disk.now in
    let file = surface (g.D.Disk.file old) in
    weaker g.D.Disk.clock g.D.Disk.since old c.open_behind.new.disk _ (IsOldOrWithAll (log file.seen) (joined group))
    (c.open_behind.ensures.any_moment keeps)
    (old-or-with-all file group.gate c.gate-gate.result group.items c.bytes.result.now (c.requires.synced keeps) (c.requires.whole keeps)
    c.bytes.ensures.fit c.requires.some c.gate-gate.ensures.gate c.bytes.ensures.bytes)

-- and begins where it began
pub returns-clause-begins : goal.returns-clause-begins
returns-clause-begins g c keeps =
    let group = c.args.group.now in
    let old = c.args.disk.now in
    let file = surface (g.D.Disk.file old) in
    weaker g.D.Disk.clock g.D.Disk.since old c.open_behind.new.disk _ (λ (image : List ℕ). begins_in image ≡ begins_in file.seen)
    (c.open_behind.ensures.any_moment keeps)
    (begins-with-all file group.gate c.gate-gate.result group.items c.bytes.result.now (c.requires.synced keeps) (c.requires.whole keeps)
    c.bytes.ensures.fit c.requires.some c.gate-gate.ensures.gate c.bytes.ensures.bytes)

-- and then the records are on the disk
pub returns-clause-done : goal.returns-clause-done
returns-clause-done g c = on_map c.open_behind.result (λ done keeps.
    let group = c.args.group.now in
    let file = surface (g.D.Disk.file c.args.disk.now) in
    let new = surface (g.D.Disk.file c.open_behind.new.disk) in
    let at = c.gate-gate.result in
    let bytes = c.bytes.result.now in
    let end : new
    ≡ after_sync (after_write group.gate (open_gate ∷ []) (after_sync (after_write (group.gate + 1) (group_bytes group.items) file))) =
    done keeps
    ∙ ap (λ (n : ℕ). after_sync (after_write n (open_gate ∷ []) (after_sync (after_write (n + 1) bytes file)))) c.gate-gate.ensures.gate
    ∙ ap (λ (l : List ℕ). after_sync (after_write group.gate (open_gate ∷ []) (after_sync (after_write (group.gate + 1) l file))))
    c.bytes.ensures.bytes in
    let all = done-with-all file group.gate group.items (c.requires.synced keeps) (c.requires.whole keeps) c.bytes.ensures.fit c.requires.some in (
      subst IsSynced (sym end) (record { whole = refl; none = refl; synced = refl }),
      ap (λ (f : Surface). ends_at f.seen (end_from group.gate group.items)) end ∙ all.0,
      ap (λ (f : Surface). log f.seen) end ∙ all.1,
    )) c.open_behind.ensures.done

pub returns-clause-next : goal.returns-clause-next
returns-clause-next g c = on_map c.open_behind.result (λ done slot keeps next.
    let at = c.gate-gate.result in
    let seen = (surface (g.D.Disk.file c.args.disk.now)).seen in
    let whole : IsTrue (ends_at seen at) = subst (λ (n : ℕ). IsTrue (ends_at seen n)) (sym c.gate-gate.ensures.gate) (c.requires.whole keeps) in
    let found = ends_found (scan seen) at whole in
    subst (λ (l : List ℕ). IsNextOrNone l slot) (sym (ap (λ (f : Surface). f.seen) (done keeps)))
    (next-appended seen found.0 at slot c.bytes.result.now found.1 next)) c.open_behind.ensures.done
