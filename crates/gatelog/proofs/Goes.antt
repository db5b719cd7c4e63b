-- A file with the same front goes on from the gate.
use Rattle.std.proofs.Common.{◌≡◌, ◌≢◌, ℕ, zero, suc, ◌+◌, ◌-◌, ◌*◌, ◌<◌, ◌≤◌, false, List, length, get_or, take, drop, Ok, sym, ap, subst, ◌∙◌, arith}
use Rattle.std.specs.Int.{w64, from_be_bytes}
use Rattle.std.proofs.lemmas.List.{get_or-take, length-drop, drop-drop}
use Rattle.frames.specs.Placed.{Placed}
use Rattle.gatelog.specs.Frames.{header}
use Rattle.frames.specs.Gate.{open_gate}
use Rattle.gatelog.specs.Gates.{first_gate}
use Rattle.frames.specs.Entries.{entries_at}
use Rattle.gatelog.specs.Log.{scan}
use Rattle.frames.proofs.Scan.{with_entries}
use Rattle.frames.proofs.Bytes.{take_agrees, get-drop, drops-agree}
use Rattle.gatelog.specs.Slots.{slot_count, offset_in, area_of, begins_at, begins_in}
use Rattle.gatelog.proofs.Named.{IsSameSlot, SameSlots, same-named}
use Rattle.gatelog.proofs.Counted.{same-beginning, same-slots-open}
use Rattle.gatelog.proofs.Areas.{log_parts, scan-from, area-goes_on, gate-shut}

same-slot-at : (image other : List ℕ) (p : ℕ) → p + 9 ≤ length image → p + 9 ≤ length other → ((i : ℕ) → i < p + 9 → get_or other i 0 ≡ get_or image i 0)
    → IsSameSlot (drop p image) (drop p other)
same-slot-at image other p long long_too same =
    let gate : get_or (drop p other) 0 0 ≡ get_or (drop p image) 0 0 = get-drop p other 0 ∙ same (p + 0) (omega arith) ∙ sym (get-drop p image 0) in
    let offset : offset_in (drop p other) ≡ offset_in (drop p image) =
    ap (from_be_bytes w64)
    (ap (take 8) (drop-drop 1 p other) ∙ drops-agree other image (p + 1) 8 (omega (arith, long_too)) (omega (arith, long))
    (λ i lt. same ((p + 1) + i) (omega (arith, lt)))
    ∙ sym (ap (take 8) (drop-drop 1 p image))) in
    (λ opened. (gate ∙ opened, offset), λ closed opened. closed (sym gate ∙ opened))

same-all-slots : (image other : List ℕ) (left p : ℕ) → p + 9 * left ≤ length image → p + 9 * left ≤ length other
    → ((i : ℕ) → i < p + 9 * left → get_or other i 0 ≡ get_or image i 0)
    → SameSlots left (drop p image) (drop p other)
same-all-slots image other zero p long long_too same = tt
same-all-slots image other (suc left) p long long_too same = (
  same-slot-at image other p (omega (arith, long)) (omega (arith, long_too)) (λ i lt. same i (omega (arith, lt))),
  subst (λ (l : List ℕ). SameSlots left l (drop 9 (drop p other))) (sym (drop-drop 9 p image))
      (subst (λ (l : List ℕ). SameSlots left (drop (p + 9) image) l) (sym (drop-drop 9 p other))
      (same-all-slots image other left (p + 9) (omega (arith, long)) (omega (arith, long_too)) (λ i lt. same i (omega (arith, lt))))),
)

-- a file with the same front has its log in the same area
pub area-stays : (image other : List ℕ) (es : List Placed) (gate : ℕ) → scan image ≡ Ok (es, gate)
    → ((i : ℕ) → i < gate → get_or other i 0 ≡ get_or image i 0) → gate < length other
    → (area : ℕ) × (area_of image ≡ Ok area) × (area_of other ≡ Ok area)
area-stays image other es gate h same long =
    let has = log_parts image es gate h in
    let begins = has.begins in
    let behind = has.behind in
    let ends = has.ends in
    let slots =
    same-all-slots image other slot_count 8 (omega (arith, ends, begins, behind)) (omega (arith, long, begins, behind))
    (λ i lt. same i (omega (arith, lt, begins, behind))) in (
      has.area,
      has.named_there,
      same-named slot_count 8 first_gate false (length image) (length other) (drop 8 image) (drop 8 other) has.area has.named_there slots
          (omega (arith, long, begins, behind, length-drop 8 other)) (omega (arith, long, behind)),
    )

pub begins-stays : (image other : List ℕ) (es : List Placed) (gate : ℕ) → scan image ≡ Ok (es, gate)
    → ((i : ℕ) → i < gate → get_or other i 0 ≡ get_or image i 0) → gate < length other → begins_in other ≡ begins_in image
begins-stays image other es gate h same long =
    let p = area-stays image other es gate h same long in
    let has = log_parts image es gate h in
    let begins = has.begins in
    let behind = has.behind in
    same-beginning _ _ _ _ (ap begins_at p.2 ∙ sym (ap begins_at p.1)) (same-slots-open image other (λ i lt. same i (omega (arith, lt, begins, behind))))

pub scan_goes_on : (image other : List ℕ) (es : List Placed) (gate : ℕ) → scan image ≡ Ok (es, gate) → take gate other ≡ take gate image
    → gate < length other
    → scan other ≡ with_entries es (entries_at gate 0 (drop gate other))
scan_goes_on image other es gate h front long =
    let has = log_parts image es gate h in
    let begins = has.begins in
    let behind = has.behind in
    let ends = has.ends in
    let same : (i : ℕ) → i < gate → get_or other i 0 ≡ get_or image i 0 =
    λ i lt. sym (get_or-take gate other i 0 lt) ∙ ap (λ (l : List ℕ). get_or l i 0) front ∙ get_or-take gate image i 0 lt in
    let headed : take 8 other ≡ header =
    take_agrees other image 8 (omega (arith, long, begins, behind)) (omega (arith, ends, begins, behind)) (λ i lt. same i (omega (arith, lt, begins, behind)))
    ∙ has.is_headed in
    let slots =
    same-all-slots image other slot_count 8 (omega (arith, ends, begins, behind)) (omega (arith, long, begins, behind))
    (λ i lt. same i (omega (arith, lt, begins, behind))) in
    let area : area_of other ≡ Ok has.area =
    same-named slot_count 8 first_gate false (length image) (length other) (drop 8 image) (drop 8 other) has.area has.named_there slots
    (omega (arith, long, begins, behind, length-drop 8 other)) (omega (arith, long, behind)) in
    scan-from other has.area headed area
    ∙ area-goes_on image other es gate has.area has.entries behind
    (drops-agree other image has.area (gate - has.area) (omega (arith, long, behind)) (omega (arith, ends, behind))
    (λ i lt. same (has.area + i) (omega (arith, lt, behind))))
    (omega (arith, long))

pub gate_within : (image : List ℕ) (es : List Placed) (gate : ℕ) → scan image ≡ Ok (es, gate) → (8 ≤ gate) × (gate < length image)
gate_within image es gate h =
    let has = log_parts image es gate h in
    (omega (arith, has.begins, has.behind), has.ends)

pub gate_closed : (image : List ℕ) (es : List Placed) (gate : ℕ) → scan image ≡ Ok (es, gate) → get_or image gate 0 ≢ open_gate
gate_closed image es gate h = gate-shut image es gate (log_parts image es gate h)
