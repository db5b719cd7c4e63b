use Rattle.std.proofs.Common.{rules, ◌≡◌, ◌⊎◌, inl, inr, ◌∙◌, ℕ, ◌<◌, List, drop, None, Err, Result, refl, sym, ap, subst, arith}
use Rattle.std.specs.Prelude.{IfErr, IsTrue}
use Rattle.units.specs.declared.fault.Fault.{Fault}
use Rattle.units.specs.declared.fault.Fault.TheVariants.{Memory, Device, Damaged}
use Rattle.disk.specs.File.{File, surface}
use Rattle.frames.specs.Ahead.{IsAhead}
use Rattle.frames.specs.Calls.{waits}
use Rattle.frames.specs.Entries.{entries_at}
use Rattle.gatelog.specs.Log.{is_no_log}
use Rattle.gatelog.proofs.Elapsed.{elapses_on, elapses_none}
use Rattle.gatelog.proofs.Loop.{IsHanded, IsPlaced, starts, starts_there, breaks, none_yet, handed_next, placed_on, less_next, to_go}
use Rattle.frames.proofs.Scan.{Found}
use Rattle.gatelog.proofs.scanning.hand_on.Goals as goal

pub loop-gate-init : goal.loop-gate-init
loop-gate-init g c = record {
  told = refl;
  same = refl;
  time = elapses_none g.D.Disk.file g.D.Disk.clock g.D.Disk.since g.D.Disk.failures c.args.disk.now;
  there = c.requires.there;
  so_far = λ keeps. starts (surface (g.D.Disk.file c.args.disk.now)).seen (g.S.Sink.taken c.args.sink.now) c.args.ahead c.requires.fresh;
  placed = starts_there (g.S.Sink.taken c.args.sink.now) c.args.ahead c.requires.fresh;
  plan = λ obey waits. refl;
}

pub hand_next-requires : goal.hand_next-requires
hand_next-requires g c = record {
  there = λ keeps. subst (λ (f : File). IsAhead (surface f).seen c.loop-gate.ahead) (sym c.loop-gate.invariant.same) (c.loop-gate.invariant.there keeps);
}

pub returns-in_err-gate-clause-same : goal.returns-in_err-gate-clause-same
returns-in_err-gate-clause-same g c = c.in_err-gate.ensures.same ∙ c.loop-gate.invariant.same

pub returns-in_err-gate-clause-time : goal.returns-in_err-gate-clause-time
returns-in_err-gate-clause-time g c =
    elapses_on g.D.Disk.file g.D.Disk.clock g.D.Disk.since g.D.Disk.failures c.args.disk.now c.loop-gate.disk c.hand_next.new.disk
    c.loop-gate.invariant.time c.in_err-gate.ensures.time c.in_err-gate.ensures.same

pub returns-in_err-gate-clause-cause : goal.returns-in_err-gate-clause-cause
returns-in_err-gate-clause-cause g c =
    by_fault c.from_residual.result (search rules)
    (by_cause c.in_err-gate.ensures.cause)
  where
    fault : Fault
    fault = c.in_err-gate.field-0.0

    image : List ℕ
    image = (surface (g.D.Disk.file c.args.disk.now)).seen

    rest : Found
    rest = entries_at c.args.ahead.at 0 (drop c.args.ahead.at image)

    Cause : Type 0
    Cause = (fault ≡ Memory) ⊎ (((fault ≡ Device) × (g.D.Disk.failures c.args.disk.now < g.D.Disk.failures c.hand_next.new.disk))
        ⊎ (IsTrue (is_no_log fault) × (g.D.Disk.keeps_model → rest ≡ Err fault)))

    by_cause : (fault ≡ Memory) ⊎ (((fault ≡ Device) × (g.D.Disk.failures c.loop-gate.disk < g.D.Disk.failures c.hand_next.new.disk))
        ⊎ ((fault ≡ Damaged c.loop-gate.ahead.at) × (g.D.Disk.keeps_model
        → entries_at c.loop-gate.ahead.at 0 (drop c.loop-gate.ahead.at (surface (g.D.Disk.file c.loop-gate.disk)).seen) ≡ Err fault))) → Cause
    by_cause (inl memory) = inl memory
    by_cause (inr (inl device)) = inr (inl (device.0, omega (arith, device.1, c.loop-gate.invariant.time.failures_stay)))
    by_cause (inr (inr damaged)) = inr (inr (
      subst (λ f. IsTrue (is_no_log f)) (sym damaged.0) refl,
      λ keeps. breaks image rest (g.S.Sink.taken c.loop-gate.sink) c.loop-gate.ahead fault
          (subst (IsHanded image rest (g.S.Sink.taken c.loop-gate.sink) c.loop-gate.ahead) (none_yet c.loop-gate.gate c.loop-gate-test.ensures)
          (c.loop-gate.invariant.so_far keeps))
          (subst (λ (f : File). entries_at c.loop-gate.ahead.at 0 (drop c.loop-gate.ahead.at (surface f).seen) ≡ Err fault) c.loop-gate.invariant.same
          (damaged.1 keeps)),
    ))

    by_fault : (r : Result ℕ Fault) → r ≡ Err fault → Cause → IfErr r (λ f. (f ≡ Memory) ⊎ (((f ≡ Device)
        × (g.D.Disk.failures c.args.disk.now < g.D.Disk.failures c.hand_next.new.disk)) ⊎ (IsTrue (is_no_log f) × (g.D.Disk.keeps_model → rest ≡ Err f))))
    by_fault r is cause = subst (λ q. IfErr q (λ f. (f ≡ Memory) ⊎ (((f ≡ Device)
        × (g.D.Disk.failures c.args.disk.now < g.D.Disk.failures c.hand_next.new.disk))
        ⊎ (IsTrue (is_no_log f) × (g.D.Disk.keeps_model → rest ≡ Err f))))) (sym is) cause

pub returns-in_err-gate-clause-waits : goal.returns-in_err-gate-clause-waits
returns-in_err-gate-clause-waits g c obey waiting =
    let plan = c.loop-gate.invariant.plan obey waiting in
    let next = c.in_err-gate.ensures.waits obey (ap waits plan ∙ waiting) in
    (by_fault c.from_residual.result (search rules) next.0, next.1 ∙ plan)
  where
    by_fault : (r : Result ℕ Fault) → r ≡ Err c.in_err-gate.field-0.0 → (c.in_err-gate.field-0.0 ≡ Memory) ⊎ IsTrue (is_no_log c.in_err-gate.field-0.0)
        → IfErr r (λ f. (f ≡ Memory) ⊎ IsTrue (is_no_log f))
    by_fault r is h = subst (λ q. IfErr q (λ f. (f ≡ Memory) ⊎ IsTrue (is_no_log f))) (sym is) h

pub loop-gate-smaller : goal.loop-gate-smaller
loop-gate-smaller g c =
    subst (λ o. to_go c.hand_next.new.ahead c.in_ok-gate.gate < to_go c.loop-gate.ahead o)
    (sym (none_yet c.loop-gate.gate c.loop-gate-test.ensures)) (less_next c.loop-gate.ahead c.hand_next.new.ahead c.in_ok-gate.gate c.in_ok-gate.ensures.less)

pub loop-gate-preserved : goal.loop-gate-preserved
loop-gate-preserved g c =
    let i = c.loop-gate.invariant in
    let none = none_yet c.loop-gate.gate c.loop-gate-test.ensures in
    let image = (surface (g.D.Disk.file c.args.disk.now)).seen in
    let there : List ℕ = (surface (g.D.Disk.file c.loop-gate.disk)).seen in
    let rest : Found = entries_at c.args.ahead.at 0 (drop c.args.ahead.at image) in
    let images : there ≡ image = ap (λ (f : File). (surface f).seen) i.same in
    let taken = g.S.Sink.taken c.loop-gate.sink in
    record {
      told = c.in_ok-gate.ensures.told ∙ i.told;
      same = c.in_ok-gate.ensures.same ∙ i.same;
      time = elapses_on g.D.Disk.file g.D.Disk.clock g.D.Disk.since g.D.Disk.failures c.args.disk.now c.loop-gate.disk c.hand_next.new.disk i.time
          c.in_ok-gate.ensures.time c.in_ok-gate.ensures.same;
      there = λ keeps. subst (λ l. IsAhead l c.hand_next.new.ahead) images (c.in_ok-gate.ensures.there keeps);
      so_far = λ keeps. subst (λ l. IsHanded l rest (g.S.Sink.taken c.hand_next.new.sink) c.hand_next.new.ahead c.in_ok-gate.gate) images
          (handed_next there rest taken (g.S.Sink.taken c.hand_next.new.sink) c.loop-gate.ahead c.hand_next.new.ahead c.in_ok-gate.gate keeps
          (subst (λ l. IsHanded l rest taken c.loop-gate.ahead None) (sym images)
          (subst (IsHanded image rest taken c.loop-gate.ahead) none (i.so_far keeps)))
          c.in_ok-gate.ensures.closed c.in_ok-gate.ensures.goes_on);
      placed = placed_on _ c.args.ahead.at taken (g.S.Sink.taken c.hand_next.new.sink) c.loop-gate.ahead c.hand_next.new.ahead c.in_ok-gate.gate
          (subst (IsPlaced c.args.ahead.at taken c.loop-gate.ahead) none i.placed) c.in_ok-gate.ensures.closed c.in_ok-gate.ensures.placed;
      plan = λ obey waiting. (c.in_ok-gate.ensures.waits obey (ap waits (i.plan obey waiting) ∙ waiting)).1 ∙ i.plan obey waiting;
    }

pub returns-clause-found : goal.returns-clause-found
returns-clause-found g c keeps = subst (IsHanded (surface (g.D.Disk.file c.args.disk.now)).seen
    (entries_at c.args.ahead.at 0 (drop c.args.ahead.at (surface (g.D.Disk.file c.args.disk.now)).seen)) (g.S.Sink.taken c.loop-gate.sink) c.loop-gate.ahead)
    c.in-Some.is (c.loop-gate.invariant.so_far keeps)

pub returns-clause-placed : goal.returns-clause-placed
returns-clause-placed g c = subst (IsPlaced c.args.ahead.at (g.S.Sink.taken c.loop-gate.sink) c.loop-gate.ahead) c.in-Some.is c.loop-gate.invariant.placed

pub returns-clause-same : goal.returns-clause-same
returns-clause-same g c = c.loop-gate.invariant.same

pub returns-clause-time : goal.returns-clause-time
returns-clause-time g c = c.loop-gate.invariant.time

pub returns-clause-waits : goal.returns-clause-waits
returns-clause-waits g c obey waiting = (tt, c.loop-gate.invariant.plan obey waiting)

pub returns-in_err-gate-clause-told : goal.returns-in_err-gate-clause-told
returns-in_err-gate-clause-told g c = c.in_err-gate.ensures.told ∙ c.loop-gate.invariant.told

pub returns-clause-told : goal.returns-clause-told
returns-clause-told g c = c.loop-gate.invariant.told
