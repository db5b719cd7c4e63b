use Rattle.std.proofs.Common.{◌≡◌, ℕ, ◌+◌, List, length, Result, Ok, Err, sym, ◌∙◌, ap, arith}
use Rattle.std.specs.Prelude.{IfErr}
use Rattle.std.proofs.lemmas.Bool.{false≢true}
use Rattle.disk.specs.File.{surface}
use Rattle.disk.specs.Image.{MayLeave}
use Rattle.disk.specs.declared.plan.FailurePlan.TheVariants.{Never, AfterWrite}
use Rattle.disk.specs.Planned.{fails, next}
use Rattle.disk.proofs.Runs.{weaker}
use Rattle.units.specs.declared.fault.Fault.{Fault}
use Rattle.units.specs.declared.fault.Fault.TheVariants.{Device}
use Rattle.frames.specs.Calls.{fails_in_two}
use Rattle.gatelog.specs.Laid.{HoldsBehind}
use Rattle.frames.proofs.Calls.{planned_err, no_err, on_map}
use Rattle.gatelog.proofs.Laid.{holds-behind, laid-first, laid-last, late-two}
use Rattle.gatelog.proofs.laying.lay_out.Goals as goal

pub returns-in_err-cut-clause-late : goal.returns-in_err-cut-clause-late
returns-in_err-cut-clause-late g c call obeys keeps is le =
    let begun = c.in_err-cut.ensures.planned 7 (length c.args.bytes.now + 8) (c.in_ok-reserve.ensures.room obeys) in
    let still : g.D.Disk.plan c.reserve.new.self ≡ AfterWrite call = c.in_ok-reserve.ensures.plan ∙ is in
    absurd (false≢true (sym (ap fails still) ∙ planned_err (Unit {0}) (fails (g.D.Disk.plan c.reserve.new.self)) c.in_err-cut.field-0.0 begun.0))

pub returns-in_err-cut-clause-planned : goal.returns-in_err-cut-clause-planned
returns-in_err-cut-clause-planned g c obeys never =
    let begun = c.in_err-cut.ensures.planned 7 (length c.args.bytes.now + 8) (c.in_ok-reserve.ensures.room obeys) in
    let still : g.D.Disk.plan c.reserve.new.self ≡ Never = c.in_ok-reserve.ensures.plan ∙ never in
    absurd (false≢true (sym (ap fails still) ∙ planned_err (Unit {0}) (fails (g.D.Disk.plan c.reserve.new.self)) c.in_err-cut.field-0.0 begun.0))

pub returns-in_err-write_and_sync-clause-late : goal.returns-in_err-write_and_sync-clause-late
returns-in_err-write_and_sync-clause-late g c call obeys keeps is le =
    let mid = c.cut.new.self in
    let begun = c.in_ok-cut.ensures.planned 7 (length c.args.bytes.now + 8) (c.in_ok-reserve.ensures.room obeys) in
    let still : g.D.Disk.plan mid ≡ AfterWrite call = c.in_ok-cut.ensures.plan ∙ ap next (c.in_ok-reserve.ensures.plan ∙ is) in
    let ended = c.in_err-write_and_sync.ensures.planned 5 8 begun.1 in
    absurd (false≢true (sym (ap fails_in_two still ∙ late-two call le)
    ∙ planned_err (Unit {0}) (fails_in_two (g.D.Disk.plan mid)) c.in_err-write_and_sync.field-0.0 ended.0))

pub returns-in_err-write_and_sync-clause-planned : goal.returns-in_err-write_and_sync-clause-planned
returns-in_err-write_and_sync-clause-planned g c obeys never =
    let mid = c.cut.new.self in
    let begun = c.in_ok-cut.ensures.planned 7 (length c.args.bytes.now + 8) (c.in_ok-reserve.ensures.room obeys) in
    let still : g.D.Disk.plan mid ≡ Never = c.in_ok-cut.ensures.plan ∙ ap next (c.in_ok-reserve.ensures.plan ∙ never) in
    let ended = c.in_err-write_and_sync.ensures.planned 5 8 begun.1 in
    absurd (false≢true (sym (ap fails_in_two still)
    ∙ planned_err (Unit {0}) (fails_in_two (g.D.Disk.plan mid)) c.in_err-write_and_sync.field-0.0 ended.0))

pub returns-clause-planned : goal.returns-clause-planned
returns-clause-planned g c obeys never =
    let mid = c.cut.new.self in
    let begun = c.in_ok-cut.ensures.planned 7 (length c.args.bytes.now + 8) (c.in_ok-reserve.ensures.room obeys) in
    let still : g.D.Disk.plan mid ≡ Never = c.in_ok-cut.ensures.plan ∙ ap next (c.in_ok-reserve.ensures.plan ∙ never) in
    let first = c.in_ok-write_and_sync.ensures.planned 5 8 begun.1 in
    let same : g.D.Disk.plan c.write_and_sync.new.disk ≡ Never = c.write_and_sync.ensures.never still in
    let ended = c.write_and_sync-2.ensures.planned 3 0 (g.met.D.Disk.room_less c.write_and_sync.new.disk 5 8 5 8 (omega arith) (omega arith) first.1) in (
      no_err (fails_in_two (g.D.Disk.plan c.write_and_sync.new.disk)) c.write_and_sync-2.result _ ended.0 (ap fails_in_two same),
      c.write_and_sync-2.ensures.never same,
    )

pub returns-clause-done : goal.returns-clause-done
returns-clause-done g c = on_map c.write_and_sync-2.result (λ done keeps.
    let first = laid-first c.args.bytes.now (surface (g.D.Disk.file c.reserve.new.self)) (surface (g.D.Disk.file c.cut.new.self))
    (surface (g.D.Disk.file c.write_and_sync.new.disk)) (c.in_ok-cut.ensures.done keeps) (c.in_ok-write_and_sync.ensures.done keeps) in
    laid-last c.args.bytes.now (surface (g.D.Disk.file c.write_and_sync.new.disk)) (surface (g.D.Disk.file c.write_and_sync-2.new.disk)) first.1 (done keeps))
    c.write_and_sync-2.ensures.done

pub returns-clause-laid : goal.returns-clause-laid
returns-clause-laid g c = on_map c.write_and_sync-2.result (λ done keeps.
    let mid = c.write_and_sync.new.disk in
    let first = laid-first c.args.bytes.now (surface (g.D.Disk.file c.reserve.new.self)) (surface (g.D.Disk.file c.cut.new.self))
    (surface (g.D.Disk.file mid)) (c.in_ok-cut.ensures.done keeps) (c.in_ok-write_and_sync.ensures.done keeps) in (
      mid,
      record {
        within = omega (arith, c.reserve.ensures.time.later, c.cut.ensures.time.later, (c.write_and_sync.ensures.crash keeps).later);
        synced = first.0;
        bare = first.1;
        from_then_on = weaker g.D.Disk.clock g.D.Disk.since mid c.write_and_sync-2.new.disk _ (HoldsBehind c.args.bytes.now)
            (c.write_and_sync-2.ensures.crash keeps) (holds-behind (surface (g.D.Disk.file mid)) c.args.bytes.now first.0 first.1);
      },
    )) c.write_and_sync-2.ensures.done

pub returns-clause-late : goal.returns-clause-late
returns-clause-late g c call obeys keeps is le = by_result c.write_and_sync-2.result
  where
    by_result : (r : Result (Unit {0}) Fault) → IfErr r (λ fault. fault ≡ Device → (image : List ℕ)
        → MayLeave (surface (g.D.Disk.file c.write_and_sync-2.new.disk)) image → HoldsBehind c.args.bytes.now image)
    by_result (Ok done) = tt
    by_result (Err fault) = λ device image may.
        let mid = c.write_and_sync.new.disk in
        let new = c.write_and_sync-2.new.disk in
        let first = laid-first c.args.bytes.now (surface (g.D.Disk.file c.reserve.new.self)) (surface (g.D.Disk.file c.cut.new.self))
        (surface (g.D.Disk.file mid)) (c.in_ok-cut.ensures.done keeps) (c.in_ok-write_and_sync.ensures.done keeps) in
        let run = c.write_and_sync-2.ensures.crash keeps in
        holds-behind (surface (g.D.Disk.file mid)) c.args.bytes.now first.0 first.1 image
        (run.each image (g.met.D.Disk.counts_now new (g.D.Disk.clock mid) image run.later may))
