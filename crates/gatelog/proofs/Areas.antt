-- The log of a file with slots: from the area that they name, and on in each file with the same front.
use Rattle.std.proofs.Common.{◌≡◌, ◌≢◌, inl, inr, ℕ, ◌+◌, ◌-◌, ◌^◌, ◌<◌, ◌≤◌, true, false, List, [], ◌∷◌, ◌++◌, length, get_or, take, drop, flat_map, Some}
use Rattle.std.proofs.Common.{Result, Ok, Err, refl, sym, ap, ◌∙◌, append_assoc, arith}
use Rattle.std.specs.Prelude.{bytes_eq}
use Rattle.std.specs.Int.{w32, from_be_bytes, to_be_bytes}
use Rattle.std.specs.List.{AllByRecursion}
use Rattle.std.proofs.lemmas.Bool.{cases_Bool}
use Rattle.std.proofs.lemmas.List.{take_at, drop_at, length-append, length-drop, drop-drop, drop_more}
use Rattle.std.proofs.lemmas.Slice.Eq.{bytes_eq-Decides}
use Rattle.units.specs.declared.fault.Fault.{Fault}
use Rattle.units.specs.declared.fault.Fault.TheVariants.{NotALog}
use Rattle.record.specs.declared.record.Record.{Record}
use Rattle.spelling.specs.Grammar.{spelling}
use Rattle.spelling.specs.Limits.{IsRecord}
use Rattle.spelling.specs.Reading.{read_record}
use Rattle.spelling.proofs.Again.{wide32, read_again, spelling-least, spelling-most}
use Rattle.frames.specs.Placed.{Placed}
use Rattle.frames.specs.Gate.{open_gate}
use Rattle.gatelog.specs.Gates.{first_gate}
use Rattle.gatelog.specs.Frames.{header, behind_gate, next_gate}
use Rattle.gatelog.specs.Areas.{whole_frame, area_bytes, placed_from}
use Rattle.frames.specs.Entries.{framed, with_entry, entries_at}
use Rattle.gatelog.specs.Log.{in_area, scan}
use Rattle.frames.proofs.Scan.{Found, with_entries, is_open, is_closed, at_gate, open_step, closed_step, IsFrame, frame_from, later, skips, goes_on}
use Rattle.gatelog.specs.Slots.{slot_count, area_of}
use Rattle.gatelog.proofs.Named.{named-above}

-- ---- the parts of a file with a log

pub record HasLog (image : List ℕ) (es : List Placed) (gate : ℕ) : Type 0 where
  pub area : ℕ
  pub is_headed : take 8 image ≡ header
  pub named_there : area_of image ≡ Ok area
  pub entries : entries_at area 0 (drop area image) ≡ Ok (es, gate)
  pub begins : first_gate ≤ area
  pub behind : area ≤ gate
  pub ends : gate < length image

ok_never : (f : Fault) (es : List Placed) (gate : ℕ) → ◌≡◌ {A = Found} (Err f) (Ok (es, gate)) → ⊥
ok_never f es gate e = cc

found-in : (image : List ℕ) (es : List Placed) (gate : ℕ) (r : Result ℕ Fault) → in_area image r ≡ Ok (es, gate)
    → (a : ℕ) × (r ≡ Ok a) × (entries_at a 0 (drop a image) ≡ Ok (es, gate))
found-in image es gate (Ok a) h = (a, refl, h)
found-in image es gate (Err f) h = absurd (ok_never f es gate h)

pub log_parts : (image : List ℕ) (es : List Placed) (gate : ℕ) → scan image ≡ Ok (es, gate) → HasLog image es gate
unfolding scan
log_parts image es gate h = elim (cases_Bool (bytes_eq (take 8 image) header)) [
  | inl same ↦
      let p = found-in image es gate (area_of image) (rw same at h) in
      let lies = later (drop p.0 image) p.0 0 es gate p.2 in
      record {
        area = p.0;
        is_headed = (bytes_eq-Decides (take 8 image) header).0 same;
        named_there = p.1;
        entries = p.2;
        begins = named-above slot_count 8 first_gate false (length image) (drop 8 image) p.0 p.1;
        behind = omega (arith, lies.0);
        ends = omega (arith, lies.0, lies.1, length-drop p.0 image);
      }
  | inr other ↦ absurd (ok_never NotALog es gate (rw other at h))
]

pub scan-from : (image : List ℕ) (a : ℕ) → take 8 image ≡ header → area_of image ≡ Ok a → scan image ≡ entries_at a 0 (drop a image)
unfolding scan
scan-from image a h k =
    let same : bytes_eq (take 8 image) header ≡ true = (bytes_eq-Decides (take 8 image) header).1 h in
    rw same (ap (in_area image) k)

-- a slot is damaged
pub scan-none : (image : List ℕ) (fault : Fault) → take 8 image ≡ header → area_of image ≡ Err fault → scan image ≡ Err fault
unfolding scan
scan-none image fault h k =
    let same : bytes_eq (take 8 image) header ≡ true = (bytes_eq-Decides (take 8 image) header).1 h in
    rw same (ap (in_area image) k)

-- ---- the gate

from_entries : (es : List Placed) (found : Found) (fs : List Placed) (gate : ℕ) → with_entries es found ≡ Ok (fs, gate)
    → (gs : List Placed) × (found ≡ Ok (gs, gate))
from_entries es (Ok found) fs gate h =
    let both : ◌≡◌ {A = List Placed × ℕ} (es ++ found.0, found.1) (fs, gate) = cc in
    (found.0, ap (λ (n : ℕ). Ok (found.0, n)) (ap (λ (p : List Placed × ℕ). p.1) both))
from_entries es (Err fault) fs gate h = absurd cc

-- an area's entries go on from the gate in each file with the same front of it
pub area-goes_on : (image other : List ℕ) (es : List Placed) (gate area : ℕ) → entries_at area 0 (drop area image) ≡ Ok (es, gate) → area ≤ gate
    → take (gate - area) (drop area other) ≡ take (gate - area) (drop area image) → gate ≤ length other
    → entries_at area 0 (drop area other) ≡ with_entries es (entries_at gate 0 (drop gate other))
area-goes_on image other es gate area h le same long =
    let k = gate - area in
    let end : gate ≡ area + k = omega (arith, le) in
    goes_on (drop area image) (drop area other) area 0 k es (h ∙ ap (λ (n : ℕ). Ok (es, n)) end) same (omega (arith, long, le, length-drop area other))
    ∙ ap (λ (l : List ℕ). with_entries es (entries_at (area + k) 0 l)) (drop-drop k area other)
    ∙ ap (λ (n : ℕ). with_entries es (entries_at n 0 (drop n other))) (sym end)

pub gate-shut : (image : List ℕ) (es : List Placed) (gate : ℕ) → HasLog image es gate → get_or image gate 0 ≢ open_gate
gate-shut image es gate h opened =
    let at_end : drop gate image ≡ get_or image gate 0 ∷ drop (gate + 1) image = drop_more image gate 0 h.ends in
    let whole = sym (area-goes_on image image es gate h.area h.entries h.behind refl (omega (arith, h.ends))) ∙ h.entries in
    let rest = from_entries es (entries_at gate 0 (drop gate image)) es gate whole in
    let there : entries_at gate 0 (get_or image gate 0 ∷ drop (gate + 1) image) ≡ Ok (rest.0, gate) =
    ap (λ (l : List ℕ). entries_at gate 0 l) (sym at_end) ∙ rest.1 in
    elim (at_gate gate (get_or image gate 0) (drop (gate + 1) image) rest.0 gate there) [
      | is_open item count more is_it frame behind split ↦ absurd (omega (arith, (later (drop (gate + 1) image) (gate + 1) count more gate behind).0))
      | is_closed shut none here ↦ shut opened
    ]

-- ---- a new area

-- the frame that was staged
pub frame_again : (item : Record) (rest : List ℕ) → IsRecord item → 1 ≤ length (spelling item) → length (spelling item) ≤ 2 ^ 20 →
    IsFrame (behind_gate item ++ rest) item (length (spelling item))
frame_again item rest fits least most =
    let front = to_be_bytes w32 (length (spelling item)) in
    let grouped : behind_gate item ++ rest ≡ front ++ (spelling item ++ rest) = append_assoc front (spelling item) rest in
    let four : take 4 (behind_gate item ++ rest) ≡ front = ap (λ (l : List ℕ). take 4 l) grouped ∙ take_at front (spelling item ++ rest) 4 refl in
    let after : drop 4 (behind_gate item ++ rest) ≡ spelling item ++ rest = ap (λ (l : List ℕ). drop 4 l) grouped
    ∙ drop_at front (spelling item ++ rest) 4 refl in
    record {
      long = omega (
        arith,
        ap length grouped,
        length-append front (spelling item ++ rest),
        length-append (spelling item) rest,
        wide32.len (length (spelling item)),
      );
      is = ap (from_be_bytes w32) four ∙ wide32.again (length (spelling item)) (omega (arith, most));
      least = least;
      most = most;
      reads = ap (λ (l : List ℕ). read_record (take (length (spelling item)) l)) after ∙ ap read_record
          (take_at (spelling item) rest (length (spelling item)) refl) ∙ read_again item fits;
    }

pub area-scanned : (items : List Record) (at : ℕ) (rest : List ℕ) → AllByRecursion IsRecord items
    → entries_at at 0 (area_bytes items ++ rest) ≡ Ok (placed_from at items)
area-scanned [] at rest all = closed_step at 0 rest (λ (e : 0 ≡ open_gate). absurd (omega (arith, e)))
area-scanned (r ∷ rs) at rest all =
    let entry : Placed = record { offset = at; item = r } in
    let count = length (spelling r) in
    let tail = area_bytes rs ++ rest in
    let grouped : area_bytes (r ∷ rs) ++ rest ≡ open_gate ∷ (behind_gate r ++ tail) =
    ap (λ (l : List ℕ). l ++ rest) (append_assoc (whole_frame r) (flat_map whole_frame rs) (0 ∷ []))
    ∙ append_assoc (whole_frame r) (area_bytes rs) rest in
    let frame : framed (behind_gate r ++ tail) ≡ Some (r, 4 + count) =
    frame_from (behind_gate r ++ tail) r count (frame_again r tail all.0 (spelling-least r) (spelling-most r all.0)) in
    let size : length (behind_gate r) ≡ 4 + count = omega (arith, length-append (to_be_bytes w32 count) (spelling r), wide32.len count) in
    let end : (at + 1) + (4 + count) ≡ next_gate at r = omega arith in
    let past : entries_at (at + 1) (4 + count) (behind_gate r ++ tail) ≡ Ok (placed_from (next_gate at r) rs) =
    ap (λ (n : ℕ). entries_at (at + 1) n (behind_gate r ++ tail)) (sym size) ∙ skips (behind_gate r) tail (at + 1)
    ∙ ap (λ (n : ℕ). entries_at n 0 tail) (ap (λ (n : ℕ). (at + 1) + n) size ∙ end)
    ∙ area-scanned rs (next_gate at r) rest all.1 in
    ap (λ (l : List ℕ). entries_at at 0 l) grouped
    ∙ open_step at open_gate (behind_gate r ++ tail) r (4 + count) refl frame
    ∙ ap (with_entry entry) past
