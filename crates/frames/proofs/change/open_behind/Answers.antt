use Rattle.std.proofs.Common.{◌⊎◌, inl, inr, ◌+◌, ℕ, List, [], ◌∷◌, length, ◌∙◌, subst, ap, arith}
use Rattle.units.specs.declared.fault.Fault.{Fault}
use Rattle.disk.specs.declared.plan.FailurePlan.{FailurePlan}
use Rattle.disk.specs.Image.{Surface, MayLeave, tried_write, after_write, after_sync}
use Rattle.disk.specs.File.{File, surface}
use Rattle.disk.specs.Planned.{IsAsPlanned}
use Rattle.disk.proofs.Runs.{weaker, and_then}
use Rattle.frames.specs.Calls.{fails_in_two, after_two, two_made}
use Rattle.frames.specs.Gate.{open_gate}
use Rattle.frames.proofs.Calls.{planned_ok, planned_err, first_half, second_half, on_map}
use Rattle.frames.proofs.Bytes.{sized}
use Rattle.frames.proofs.change.open_behind.Goals as goal

-- what a crash leaves of the two halves
abbrev While : ℕ → List ℕ → Surface → List ℕ → Type 0
While at bytes file image =
    MayLeave (tried_write (at + 1) (length bytes) file) image ⊎ MayLeave (tried_write at 1 (after_sync (after_write (at + 1) bytes file))) image

pub returns-in_err-write_and_sync-clause-any_moment : goal.returns-in_err-write_and_sync-clause-any_moment
returns-in_err-write_and_sync-clause-any_moment g c keeps =
    let old = c.args.disk.now in
    weaker g.D.Disk.clock g.D.Disk.since old c.write_and_sync.new.disk _ (While c.args.at c.args.bytes.now (surface (g.D.Disk.file old)))
    (c.write_and_sync.ensures.crash keeps) (λ image left. inl left)

pub returns-in_err-write_and_sync-clause-planned : goal.returns-in_err-write_and_sync-clause-planned
returns-in_err-write_and_sync-clause-planned g c room =
    let plan = g.D.Disk.plan c.args.disk.now in
    let file = g.D.Disk.file c.args.disk.now in
    let begun = c.in_err-write_and_sync.ensures.planned 2 1 room in
    let half = two_made plan (c.args.at + 1) c.args.bytes.now file in
    first_half c.from_residual.result (fails_in_two plan) (fails_in_two (after_two plan)) (g.D.Disk.file c.write_and_sync.new.disk) half
    (two_made (after_two plan) c.args.at (open_gate ∷ []) half)
    (planned_err (Unit {0}) (fails_in_two plan) c.in_err-write_and_sync.field-0.0 begun.0) c.from_residual.ensures.0 begun.2

pub write_and_sync-requires-2 : goal.write_and_sync-requires-2
write_and_sync-requires-2 g c keeps =
    let seen = (surface (g.D.Disk.file c.args.disk.now)).seen in
    omega (
      arith,
      ap (λ (f : Surface). length f.seen) (c.in_ok-write_and_sync.ensures.done keeps),
      c.requires.inside keeps,
      (sized (c.args.at + 1) c.args.bytes.now seen (c.requires.inside keeps)).0,
    )

pub returns-clause-any_moment : goal.returns-clause-any_moment
returns-clause-any_moment g c keeps =
    let old = c.args.disk.now in
    let file = surface (g.D.Disk.file old) in
    and_then g.D.Disk.clock g.D.Disk.since old c.write_and_sync.new.disk c.write_and_sync-2.new.disk _ _ (While c.args.at c.args.bytes.now file)
    (c.write_and_sync.ensures.crash keeps) (c.write_and_sync-2.ensures.crash keeps) (λ image left. inl left)
    (λ image left. inr (subst (λ (f : Surface). MayLeave (tried_write c.args.at 1 f) image) (c.in_ok-write_and_sync.ensures.done keeps) left))

pub returns-clause-done : goal.returns-clause-done
returns-clause-done g c = on_map c.write_and_sync-2.result (λ done keeps.
    done keeps ∙ ap (λ (f : Surface). after_sync (after_write c.args.at (open_gate ∷ []) f)) (c.in_ok-write_and_sync.ensures.done keeps))
    c.write_and_sync-2.ensures.done

pub returns-clause-planned : goal.returns-clause-planned
returns-clause-planned g c room =
    let plan = g.D.Disk.plan c.args.disk.now in
    let file = g.D.Disk.file c.args.disk.now in
    let mid = c.write_and_sync.new.disk in
    let new = c.write_and_sync-2.new.disk in
    let begun = c.in_ok-write_and_sync.ensures.planned 2 1 room in
    let ended = c.write_and_sync-2.ensures.planned 0 0 begun.1 in
    let plan-is = c.in_ok-write_and_sync.ensures.plan in
    let half = two_made plan (c.args.at + 1) c.args.bytes.now file in
    second_half c.write_and_sync-2.result (fails_in_two plan) (fails_in_two (after_two plan)) (g.D.Disk.file new) half
    (two_made (after_two plan) c.args.at (open_gate ∷ []) half) (planned_ok Fault (fails_in_two plan) tt begun.0)
    (subst (λ (p : FailurePlan). IsAsPlanned (fails_in_two p) c.write_and_sync-2.result) plan-is ended.0)
    (ended.2 ∙ ap (λ (p : FailurePlan). two_made p c.args.at (open_gate ∷ []) (g.D.Disk.file mid)) plan-is
    ∙ ap (λ (f : File). two_made (after_two plan) c.args.at (open_gate ∷ []) f) begun.2)
