use Rattle.std.proofs.Common.{rules, ◌≡◌, ◌≢◌, ◌⊎◌, inl, inr, ◌<◌, ◌≤◌, ◌∙◌, List, ℕ, length, arith, take, drop, Ok, Err, refl, sym, subst, ap}
use Rattle.std.specs.Prelude.{IsTrue}
use Rattle.units.specs.declared.fault.Fault.{Fault}
use Rattle.units.specs.declared.fault.Fault.TheVariants.{Memory, Device, NotALog}
use Rattle.disk.specs.File.{surface}
use Rattle.gatelog.specs.Frames.{header}
use Rattle.frames.specs.Entries.{entries_at}
use Rattle.gatelog.specs.Log.{scan, is_no_log}
use Rattle.gatelog.specs.Slots.{area_of, begins_at}
use Rattle.frames.proofs.Calls.{if_err}
use Rattle.gatelog.proofs.Next.{next-ahead}
use Rattle.gatelog.proofs.Areas.{scan-from, scan-none}
use Rattle.gatelog.proofs.Reading.{no_header}
use Rattle.gatelog.proofs.ReadSlots.{area-is}
use Rattle.gatelog.proofs.scanning.begin.Goals as goal

pub returns-in_err-ahead-clause-cause : goal.returns-in_err-ahead-clause-cause
returns-in_err-ahead-clause-cause g c =
    if_err _ c.from_residual.result c.in_err-ahead.field-0.0 (search rules) (by_cause c.in_err-ahead.ensures.cause)
  where
    fault : Fault
    fault = c.in_err-ahead.field-0.0

    image : List ℕ
    image = (surface (g.D.Disk.file c.args.disk.now)).seen

    Failed : Type 0
    Failed = (fault ≡ Device) × (g.D.Disk.failures c.args.disk.now < g.D.Disk.failures c.headed.new.disk)

    by_cause : (fault ≡ Memory) ⊎ (Failed ⊎ ((fault ≡ NotALog) × (g.D.Disk.keeps_model → take 8 image ≢ header)))
        → (fault ≡ Memory) ⊎ (Failed ⊎ (IsTrue (is_no_log fault) × (g.D.Disk.keeps_model → scan image ≡ Err fault)))
    by_cause (inl memory) = inl memory
    by_cause (inr (inl device)) = inr (inl device)
    by_cause (inr (inr other)) = inr (inr (
      subst (λ f. IsTrue (is_no_log f)) (sym other.0) refl,
      λ keeps. no_header image (other.1 keeps) ∙ ap (λ f. Err f) (sym other.0),
    ))

pub returns-in_err-area-clause-cause : goal.returns-in_err-area-clause-cause
returns-in_err-area-clause-cause g c =
    if_err _ c.from_residual-in_err-area.result c.in_err-area.field-0.0 (search rules) (inr (inr (
      c.in_err-area.ensures.damaged,
      λ keeps.
          let image = (surface (g.D.Disk.file c.args.disk.now)).seen in
          scan-none image c.in_err-area.field-0.0 (c.in_ok-ahead.ensures.header keeps)
          (area-is image c.in_ok-ahead.ahead (c.in_ok-ahead.ensures.there keeps) c.in_ok-ahead.ensures.at c.bytes.result.now c.len.result
          c.bytes.ensures c.len.ensures (Err c.in_err-area.field-0.0) c.in_err-area.ensures.named),
    )))

module _ (g : _) (c : goal.After-skip_to g) where
  there : g.D.Disk.keeps_model → area_of (surface (g.D.Disk.file c.args.disk.now)).seen ≡ Ok c.in_ok-area.area
  there keeps =
      area-is (surface (g.D.Disk.file c.args.disk.now)).seen c.in_ok-ahead.ahead (c.in_ok-ahead.ensures.there keeps) c.in_ok-ahead.ensures.at
      c.bytes.result.now c.len.result c.bytes.ensures c.len.ensures (Ok c.in_ok-area.area) c.in_ok-area.ensures.named

  all-slots : 9216 ≤ length c.bytes-2.result.now
  all-slots = enough c.in_ok-ahead.ensures.enough
    where
      enough : (9216 ≤ length c.in_ok-ahead.ahead.bytes) ⊎ (c.in_ok-ahead.ahead.left ≡ 0) → 9216 ≤ length c.bytes-2.result.now
      enough (inl long) = omega (arith, long, ap length c.bytes-2.ensures)
      enough (inr all) =
          omega (arith, all, ap length c.bytes-2.ensures, c.len.ensures, c.in_ok-area.ensures.above.0, c.in_ok-area.ensures.above.1, c.in_ok-ahead.ensures.at)

pub returns-clause-area : goal.returns-clause-area
returns-clause-area g c keeps =
    let image = (surface (g.D.Disk.file c.args.disk.now)).seen in
    scan-from image c.in_ok-area.area (c.in_ok-ahead.ensures.header keeps) (there g c keeps)
    ∙ ap (λ (n : ℕ). entries_at n 0 (drop n image)) (sym c.skip_to.ensures.at)

pub returns-clause-begins : goal.returns-clause-begins
returns-clause-begins g c keeps = ap begins_at (there g c keeps) ∙ sym c.skip_to.ensures.at

pub open_slots-slot-requires : goal.open_slots-slot-requires
open_slots-slot-requires g c = enough c.in_ok-ahead.ensures.enough
  where
    enough : (9216 ≤ length c.in_ok-ahead.ahead.bytes) ⊎ (c.in_ok-ahead.ahead.left ≡ 0) → 9216 ≤ length c.bytes-2.result.now
    enough (inl long) = omega (arith, long, ap length c.bytes-2.ensures)
    enough (inr all) =
        omega (arith, all, ap length c.bytes-2.ensures, c.len.ensures, c.in_ok-area.ensures.above.0, c.in_ok-area.ensures.above.1, c.in_ok-ahead.ensures.at)

pub returns-clause-next : goal.returns-clause-next
returns-clause-next g c keeps =
    next-ahead (surface (g.D.Disk.file c.args.disk.now)).seen c.in_ok-ahead.ahead (c.in_ok-ahead.ensures.there keeps) c.in_ok-ahead.ensures.at
    c.bytes-2.result.now c.bytes-2.ensures (all-slots g c) c.open_slots-slot.result c.open_slots-slot.ensures.within
    c.open_slots-slot.ensures.former c.open_slots-slot.ensures.shut
