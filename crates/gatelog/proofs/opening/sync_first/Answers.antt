use Rattle.std.proofs.Common.{◌≡◌, ◌∙◌, ap, subst, ℕ, List}
use Rattle.disk.specs.Image.{MayLeave}
use Rattle.disk.specs.File.{File, surface}
use Rattle.disk.specs.Planned.{fails, next}
use Rattle.disk.proofs.Runs.{one_call, and_then}
use Rattle.frames.proofs.Calls.{no_err, on_any, synced_unless, waits_on}
use Rattle.gatelog.proofs.opening.sync_first.Goals as goal

pub returns-clause-waits : goal.returns-clause-waits
returns-clause-waits g c obeys waits =
    let begun = c.sync.ensures.planned 7 0 (c.in_ok-reserve.ensures.room obeys) in
    let on = waits_on (g.D.Disk.plan c.args.disk.now) waits in
    let goes = ap fails c.in_ok-reserve.ensures.plan ∙ on.0 in (
      no_err (fails (g.D.Disk.plan c.reserve.new.self)) c.sync.result _ begun.0 goes,
      on_any c.sync.result _ (synced_unless (fails (g.D.Disk.plan c.reserve.new.self)) (g.D.Disk.file c.args.disk.now) (g.D.Disk.file c.reserve.new.self)
          (g.D.Disk.file c.sync.new.self) goes c.in_ok-reserve.ensures.same begun.2),
      c.sync.ensures.plan ∙ ap next c.in_ok-reserve.ensures.plan ∙ on.1,
    )

pub returns-clause-crash : goal.returns-clause-crash
returns-clause-crash g c keeps =
    let old = c.args.disk.now in
    let mid = c.reserve.new.self in
    let new = c.sync.new.self in
    let P : List ℕ → Type 0 = MayLeave (surface (g.D.Disk.file old)) in
    let same : g.D.Disk.file mid ≡ g.D.Disk.file old = c.reserve.ensures.same in
    let back = λ (image : List ℕ) (may : MayLeave (surface (g.D.Disk.file mid)) image). subst (λ (f : File). MayLeave (surface f) image) same may in
    let first = one_call g.D.Disk.file g.D.Disk.clock g.D.Disk.since g.D.Disk.failures old mid P c.reserve.ensures.time (g.met.D.Disk.only_now old)
    (λ image may. may) back in
    let second = one_call g.D.Disk.file g.D.Disk.clock g.D.Disk.since g.D.Disk.failures mid new P c.sync.ensures.time (g.met.D.Disk.only_now mid) back
    (λ image may. back image (c.sync.ensures.crash keeps image may)) in
    and_then g.D.Disk.clock g.D.Disk.since old mid new P P P first second (λ image p. p) (λ image p. p)
