use Rattle.std.proofs.Common.{rules, ◌≡◌, ◌≢◌, ◌⊎◌, inl, inr, ◌<◌, ◌∙◌, List, ℕ, take, drop, Result, Ok, Err, refl, sym, subst, ap, arith}
use Rattle.std.specs.Prelude.{IsTrue, IfErr}
use Rattle.std.proofs.lemmas.Result.{IfOk-weaker}
use Rattle.units.specs.declared.fault.Fault.{Fault}
use Rattle.units.specs.declared.fault.Fault.TheVariants.{Memory, Device, TimeSpent, NotALog}
use Rattle.disk.specs.File.{File, surface}
use Rattle.gatelog.specs.First.{first_header, first_scan, first_log, HasTooLong, IsTooLong}
use Rattle.frames.specs.Entries.{entries_at}
use Rattle.gatelog.specs.Log.{entries_of, is_no_log}
use Rattle.frames.specs.Placed.{Placed}
use Rattle.frames.proofs.Calls.{if_err}
use Rattle.gatelog.proofs.Copies.{first-from, first-none}
use Rattle.frames.proofs.Scan.{Found}
use Rattle.gatelog.proofs.migrating.copy_of.Goals as goal

pub returns-in_err-ahead-clause-cause : goal.returns-in_err-ahead-clause-cause
returns-in_err-ahead-clause-cause g c =
    if_err _ c.from_residual.result c.in_err-ahead.field-0.0 (search rules) (by_cause c.in_err-ahead.ensures.cause)
  where
    fault : Fault
    fault = c.in_err-ahead.field-0.0

    image : List ℕ
    image = (surface (g.D.Disk.file c.args.disk.now)).seen

    Failed : Type 0
    Failed = (fault ≡ Device) × (g.D.Disk.failures c.args.disk.now < g.D.Disk.failures c.headed.new.disk)

    Long : Type 0
    Long = (fault ≡ TimeSpent) × (g.D.Disk.keeps_model → HasTooLong image)

    by_cause : (fault ≡ Memory) ⊎ (Failed ⊎ ((fault ≡ NotALog) × (g.D.Disk.keeps_model → take 8 image ≢ first_header)))
        → (fault ≡ Memory) ⊎ (Failed ⊎ (Long ⊎ (IsTrue (is_no_log fault) × (g.D.Disk.keeps_model → first_log image ≡ Err fault))))
    by_cause (inl memory) = inl memory
    by_cause (inr (inl device)) = inr (inl device)
    by_cause (inr (inr other)) = inr (inr (inr (
      subst (λ f. IsTrue (is_no_log f)) (sym other.0) refl,
      λ keeps. ap entries_of (first-none image (other.1 keeps)) ∙ ap (λ f. Err f) (sym other.0),
    )))

-- what was read is the file's, by what the two calls gave
module _ (image : List ℕ) (file : File) (at : ℕ) (is : at ≡ 8) (same : (surface file).seen ≡ image) (headed : take 8 image ≡ first_header) (found : Found)
    (read : entries_at at 0 (drop at (surface file).seen) ≡ found) where
  first-read : first_scan image ≡ found
  first-read =
      first-from image headed ∙ ap (λ (n : ℕ). entries_at n 0 (drop n image)) (sym is)
      ∙ ap (λ (l : List ℕ). entries_at at 0 (drop at l)) (sym same) ∙ read

pub returns-in-Ok-clause-spelled : goal.returns-in-Ok-clause-spelled
returns-in-Ok-clause-spelled g c =
    IfOk-weaker c.spelled-bytes.result _ _ (λ bytes spelled. (
      c.deref.result.now,
      spelled,
      λ keeps.
          ap entries_of (first-read (surface (g.D.Disk.file c.args.disk.now)).seen (g.D.Disk.file c.headed.new.disk) c.in_ok-ahead.ahead.at
          c.in_ok-ahead.ensures.at (ap (λ (f : File). (surface f).seen) c.in_ok-ahead.ensures.same) (c.in_ok-ahead.ensures.header keeps) _
          (c.in-Ok.ensures.found keeps))
          ∙ ap (λ (l : List Placed). Ok l) (sym c.deref.ensures.value),
    )) c.spelled-bytes.ensures.spelled

pub returns-in-Ok-clause-cause : goal.returns-in-Ok-clause-cause
returns-in-Ok-clause-cause g c = by_result c.spelled-bytes.result c.spelled-bytes.ensures.cause
  where
    image : List ℕ
    image = (surface (g.D.Disk.file c.args.disk.now)).seen

    too_long : IsTooLong c.in-Ok.gate → g.D.Disk.keeps_model → HasTooLong image
    too_long long keeps = (
      _,
      c.in-Ok.gate,
      first-read image (g.D.Disk.file c.headed.new.disk) c.in_ok-ahead.ahead.at
          c.in_ok-ahead.ensures.at (ap (λ (f : File). (surface f).seen) c.in_ok-ahead.ensures.same) (c.in_ok-ahead.ensures.header keeps) _
          (c.in-Ok.ensures.found keeps),
      long,
    )

    by_result : {T : Type 0} (r : Result T Fault) → IfErr r (λ fault. (fault ≡ Memory) ⊎ ((fault ≡ TimeSpent) × IsTooLong c.in-Ok.gate))
        → IfErr r (λ fault. (fault ≡ Memory)
        ⊎ (((fault ≡ Device) × (g.D.Disk.failures c.args.disk.now < g.D.Disk.failures c.hand_on.new.disk))
        ⊎ (((fault ≡ TimeSpent) × (g.D.Disk.keeps_model → HasTooLong image))
        ⊎ (IsTrue (is_no_log fault) × (g.D.Disk.keeps_model → first_log image ≡ Err fault)))))
    by_result (Ok bytes) h = tt
    by_result (Err fault) (inl memory) = inl memory
    by_result (Err fault) (inr long) = inr (inr (inl (long.0, too_long long.1)))

pub returns-in-Err-clause-cause : goal.returns-in-Err-clause-cause
returns-in-Err-clause-cause g c = by_cause c.in-Err.ensures.cause
  where
    fault : Fault
    fault = c.in-Err.fault

    image : List ℕ
    image = (surface (g.D.Disk.file c.args.disk.now)).seen

    by_cause : (fault ≡ Memory) ⊎ (((fault ≡ Device) × (g.D.Disk.failures c.headed.new.disk < g.D.Disk.failures c.hand_on.new.disk))
        ⊎ (IsTrue (is_no_log fault) × (g.D.Disk.keeps_model
        → entries_at c.in_ok-ahead.ahead.at 0 (drop c.in_ok-ahead.ahead.at (surface (g.D.Disk.file c.headed.new.disk)).seen) ≡ Err fault)))
        → (fault ≡ Memory)
        ⊎ (((fault ≡ Device) × (g.D.Disk.failures c.args.disk.now < g.D.Disk.failures c.hand_on.new.disk))
        ⊎ (((fault ≡ TimeSpent) × (g.D.Disk.keeps_model → HasTooLong image))
        ⊎ (IsTrue (is_no_log fault) × (g.D.Disk.keeps_model → first_log image ≡ Err fault))))
    by_cause (inl memory) = inl memory
    by_cause (inr (inl device)) = inr (inl (device.0, omega (arith, device.1, c.in_ok-ahead.ensures.time.failures_stay)))
    by_cause (inr (inr damaged)) = inr (inr (inr (
      damaged.0,
      λ keeps.
          ap entries_of (first-read image (g.D.Disk.file c.headed.new.disk) c.in_ok-ahead.ahead.at
          c.in_ok-ahead.ensures.at (ap (λ (f : File). (surface f).seen) c.in_ok-ahead.ensures.same) (c.in_ok-ahead.ensures.header keeps) (Err fault)
          (damaged.1 keeps)),
    )))
