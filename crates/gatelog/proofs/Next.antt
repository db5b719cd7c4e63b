-- The next slot, behind an append and behind a turnover.
use Rattle.std.proofs.Common.{◌≡◌, ◌≢◌, ◌⊎◌, inl, inr, ℕ, zero, suc, ◌+◌, ◌*◌, ◌-◌, ◌<◌, ◌≤◌, true, false, List, [], ◌∷◌, length, get_or, drop, Ok, refl}
use Rattle.std.proofs.Common.{sym, ap, ◌∙◌, arith}
use Rattle.std.proofs.lemmas.List.{get_or-drop, drop-drop, get_or_append_left}
use Rattle.std.proofs.lemmas.Bool.{true≢false}
use Rattle.disk.proofs.Runs.{get_or-with_bytes}
use Rattle.frames.specs.Gate.{open_gate}
use Rattle.gatelog.specs.Gates.{first_gate}
use Rattle.frames.specs.Ahead.{Ahead, IsAhead, read_to}
use Rattle.gatelog.specs.Areas.{area_bytes, fresh_with}
use Rattle.gatelog.specs.Slots.{slot_count, slot_at, offset_in, named, offset_bytes, begins_at, begins_in}
use Rattle.disk.specs.Image.{Surface, with_bytes}
use Rattle.record.specs.declared.record.Record.{Record}
use Rattle.frames.specs.Placed.{Placed}
use Rattle.gatelog.specs.Log.{scan}
use Rattle.gatelog.specs.Turns.{IsNext, IsNextOrNone, MayTurn, named_new}
use Rattle.gatelog.proofs.Named.{at_slot, is_open, is_closed}
use Rattle.gatelog.proofs.Areas.{log_parts}
use Rattle.gatelog.proofs.Counted.{same-beginning, counted}
use Rattle.gatelog.proofs.Fresh.{area-fresh}
use Rattle.frames.proofs.Bytes.{sized, inside, get-drop}

pub next-stays : (image : List ℕ) (es : List Placed) (gate slot at : ℕ) (bytes : List ℕ) → scan image ≡ Ok (es, gate) → gate ≤ at → at ≤ length image
    → IsNextOrNone image slot → IsNextOrNone (with_bytes at bytes image) slot
next-stays image es gate slot at bytes h le within next =
    let has = log_parts image es gate h in
    let begins = has.begins in
    let behind = has.behind in
    let low = next.within in
    let same : (i : ℕ) → i < first_gate → get_or (with_bytes at bytes image) i 0 ≡ get_or image i 0 =
    λ i lt. get_or-with_bytes at bytes image i within (inl (omega (arith, lt, begins, behind, le))) in
    record {
      within = next.within;
      former = λ i lt. same (slot_at i) (omega (arith, lt, low)) ∙ next.former i lt;
      shut = λ lt e. next.shut lt (sym (same (slot_at slot) (omega (arith, lt))) ∙ e);
    }

-- behind a closed slot each is closed
closed-behind : (left at area size : ℕ) (image : List ℕ) (p k a : ℕ) → named left at area true size (drop p image) ≡ Ok a → k < left
    → get_or image (p + 9 * k) 0 ≢ open_gate
closed-behind zero at area size image p k a h lt = λ e. absurd (omega (arith, lt))
closed-behind (suc left) at area size image p k a h lt = elim (at_slot left at area true size (drop p image) a h).1 [
  | is_open opened not_shut above within rest ↦ absurd (true≢false not_shut)
  | is_closed shut rest ↦ by_place k lt shut
      (λ j less. closed-behind left (at + 9) area size image (p + 9) j a
      (sym (ap (λ (l : List ℕ). named left (at + 9) area true size l) (drop-drop 9 p image)) ∙ rest) less)
]
  where
    by_place : (j : ℕ) → j < suc left → get_or (drop p image) 0 0 ≢ open_gate → ((i : ℕ) → i < left → get_or image ((p + 9) + 9 * i) 0 ≢ open_gate)
        → get_or image (p + 9 * j) 0 ≢ open_gate
    by_place zero less shut rest e = shut (get_or-drop p image 0 0 ∙ (ap (λ (n : ℕ). get_or image n 0) (omega arith) ∙ e))
    by_place (suc j) less shut rest e = rest j (omega (arith, less)) (ap (λ (n : ℕ). get_or image n 0) (omega arith) ∙ e)

-- the slots from one on, where the first of them that is closed is another
after-next : (left m at area size : ℕ) (image : List ℕ) (slot a : ℕ) → named left at area false size (drop (slot_at m) image) ≡ Ok a → m + left ≡ slot_count
    → m ≤ slot
    → ((i : ℕ) → i < slot → get_or image (slot_at i) 0 ≡ open_gate) → get_or image (slot_at slot) 0 ≢ open_gate → suc slot < slot_count
    → get_or image (slot_at (suc slot)) 0 ≢ open_gate
after-next zero m at area size image slot a h all le former shut lt = λ e. absurd (omega (arith, all, le, lt))
after-next (suc left) m at area size image slot a h all le former shut lt = elim (at_slot left at area false size (drop (slot_at m) image) a h).1 [
  | is_open opened not_shut above within rest ↦
      λ e. after-next left (m + 1) (at + 9) (offset_in (drop (slot_at m) image)) size image slot a
      (sym (ap (λ (l : List ℕ). named left (at + 9) (offset_in (drop (slot_at m) image)) false size l) (drop-drop 9 (slot_at m) image
      ∙ ap (λ (n : ℕ). drop n image) (omega arith))) ∙ rest)
      (omega (arith, all)) (below opened) former shut lt e
  | is_closed closed rest ↦
      λ e. closed-behind left (at + 9) area size image (slot_at m + 9) (slot - m) a
      (sym (ap (λ (l : List ℕ). named left (at + 9) area true size l) (drop-drop 9 (slot_at m) image)) ∙ rest)
      (omega (arith, all, le, lt)) (ap (λ (n : ℕ). get_or image n 0) (omega (arith, le)) ∙ e)
]
  where
    below : get_or (drop (slot_at m) image) 0 0 ≡ open_gate → m + 1 ≤ slot
    below opened = elim (Rattle.std.proofs.lemmas.Bool.cases_eq m slot) [
      | inl here ↦ absurd (shut (ap (λ (n : ℕ). get_or image n 0) (omega (arith, here)) ∙ (sym (get_or-drop (slot_at m) image 0 0) ∙ opened)))
      | inr differs ↦ omega (arith, le, differs)
    ]

-- once it is open in a file whose other slots are the same, the next one is the one after it
pub next-after : (image other : List ℕ) (es : List Placed) (gate slot : ℕ) → scan image ≡ Ok (es, gate) → IsNext image slot
    → get_or other (slot_at slot) 0 ≡ open_gate
    → ((i : ℕ) → i < first_gate → (i < slot_at slot) ⊎ (slot_at slot + 9 ≤ i) → get_or other i 0 ≡ get_or image i 0)
    → IsNextOrNone other (suc slot)
next-after image other es gate slot h next opened same =
    let has = log_parts image es gate h in
    let low = next.within in
    record {
      within = omega (arith, low);
      former = λ i less. elim (Rattle.std.proofs.lemmas.Bool.cases_eq i slot) [
        | inl here ↦ ap (λ (n : ℕ). get_or other n 0) (omega (arith, here)) ∙ opened
        | inr differs ↦ same (slot_at i) (omega (arith, less, low)) (inl (omega (arith, less, differs))) ∙ next.former i (omega (arith, less, differs))
      ];
      shut = λ lt e. after-next slot_count 0 8 first_gate (length image) image slot has.area has.named_there refl (omega arith) next.former next.shut lt
          (sym (same (slot_at (suc slot)) (omega (arith, lt)) (inr (omega arith))) ∙ e);
    }

pub next-goes_on : (file : Surface) (es : List Placed) (gate slot : ℕ) (items : List Record) → MayTurn file es gate slot items
    → IsNextOrNone (named_new slot gate items file).seen (suc slot)
next-goes_on file es gate slot items may =
    let has = log_parts file.seen es gate may.found in
    let begins = has.begins in
    let behind = has.behind in
    let ends = has.ends in
    let low = may.next.within in
    let grown = with_bytes (gate + 1) (area_bytes items) file.seen in
    let grown-size = sized (gate + 1) (area_bytes items) file.seen (omega (arith, ends)) in
    let staged = with_bytes (slot_at slot + 1) (offset_bytes (gate + 1)) grown in
    let staged-size = sized (slot_at slot + 1) (offset_bytes (gate + 1)) grown (omega (arith, low, begins, behind, ends, grown-size.0)) in
    let same : (i : ℕ) → i < first_gate → (i < slot_at slot) ⊎ (slot_at slot + 9 ≤ i)
    → get_or (named_new slot gate items file).seen i 0 ≡ get_or file.seen i 0 =
    λ i less un.
    get_or-with_bytes (slot_at slot) (open_gate ∷ []) staged i (omega (arith, staged-size.1)) (near i un)
    ∙ get_or-with_bytes (slot_at slot + 1) (offset_bytes (gate + 1)) grown i (omega (arith, low, begins, behind, ends, grown-size.0)) (wide i un)
    ∙ get_or-with_bytes (gate + 1) (area_bytes items) file.seen i (omega (arith, ends)) (inl (omega (arith, less, begins, behind))) in
    next-after file.seen (named_new slot gate items file).seen es gate slot may.found may.next
    (ap (λ (n : ℕ). get_or (named_new slot gate items file).seen n 0) (omega arith)
    ∙ inside (slot_at slot) (open_gate ∷ []) staged 0 (omega (arith, staged-size.1)) (omega arith))
    same
  where
    near : (i : ℕ) → (i < slot_at slot) ⊎ (slot_at slot + 9 ≤ i) → (i < slot_at slot) ⊎ (slot_at slot + 1 ≤ i)
    near i (inl less) = inl less
    near i (inr le) = inr (omega (arith, le))

    wide : (i : ℕ) → (i < slot_at slot) ⊎ (slot_at slot + 9 ≤ i) → (i < slot_at slot + 1) ⊎ (slot_at slot + 1 + 8 ≤ i)
    wide i (inl less) = inl (omega (arith, less))
    wide i (inr le) = inr (omega (arith, le))

-- another file with the same slots has the same next one
pub next-front : (image other : List ℕ) (slot : ℕ) → ((i : ℕ) → i < first_gate → get_or other i 0 ≡ get_or image i 0) → IsNextOrNone image slot
    → IsNextOrNone other slot
next-front image other slot same next =
    let low = next.within in
    record {
      within = next.within;
      former = λ i lt. same (slot_at i) (omega (arith, lt, low)) ∙ next.former i lt;
      shut = λ lt e. next.shut lt (sym (same (slot_at slot) (omega (arith, lt))) ∙ e);
    }

-- behind an append
pub next-appended : (image : List ℕ) (es : List Placed) (gate slot : ℕ) (bytes : List ℕ) → scan image ≡ Ok (es, gate) → IsNextOrNone image slot
    → IsNextOrNone (with_bytes gate (open_gate ∷ []) (with_bytes (gate + 1) bytes image)) slot
next-appended image es gate slot bytes h next =
    let has = log_parts image es gate h in
    let begins = has.begins in
    let behind = has.behind in
    let ends = has.ends in
    let grown = with_bytes (gate + 1) bytes image in
    let size = sized (gate + 1) bytes image (omega (arith, ends)) in
    next-front image (with_bytes gate (open_gate ∷ []) grown) slot
    (λ i lt. get_or-with_bytes gate (open_gate ∷ []) grown i (omega (arith, ends, size.0)) (inl (omega (arith, lt, begins, behind)))
    ∙ get_or-with_bytes (gate + 1) bytes image i (omega (arith, ends)) (inl (omega (arith, lt, begins, behind)))) next

-- in a file whose slots are all closed it is the first
pub fresh-next : (items : List Record) → IsNextOrNone (fresh_with items) 0
fresh-next items =
    let none : get_or (fresh_with items) (slot_at 0) 0 ≡ 0 = refl in
    record { within = omega arith; former = λ i lt. absurd (omega (arith, lt)); shut = λ lt e. absurd (omega (arith, none, e)) }

pub fresh-begins : (items : List Record) → begins_in (fresh_with items) ≡ record { at = first_gate; slots = 0 }
fresh-begins items = same-beginning _ _ _ _ (ap begins_at (area-fresh items)) (counted (fresh_with items) 0 (fresh-next items))

-- by what was read ahead behind the header
pub next-ahead : (image : List ℕ) (a : Ahead) → IsAhead image a → a.at ≡ 8 → (bytes : List ℕ) → bytes ≡ a.bytes → 9216 ≤ length bytes → (slot : ℕ)
    → slot ≤ slot_count → ((i : ℕ) → i < slot → get_or bytes (9 * i) 0 ≡ open_gate) → (slot < slot_count → get_or bytes (9 * slot) 0 ≢ open_gate)
    → IsNextOrNone image slot
next-ahead image a ahead at bytes is long slot within former shut = record {
  within = within;
  former = λ i lt. there i (omega (arith, lt, within)) ∙ former i lt;
  shut = λ lt e. shut lt (sym (there slot lt) ∙ e);
}
  where
    there : (i : ℕ) → i < slot_count → get_or image (slot_at i) 0 ≡ get_or bytes (9 * i) 0
    there i lt =
        ap (λ (n : ℕ). get_or image n 0) (omega (arith, at))
        ∙ sym (get-drop a.at image (9 * i))
        ∙ ap (λ (l : List ℕ). get_or l (9 * i) 0) (sym ahead.bytes)
        ∙ get_or_append_left a.bytes (drop (read_to a) image) 0 (9 * i) (omega (arith, lt, long, ap length is))
        ∙ ap (λ (l : List ℕ). get_or l (9 * i) 0) (sym is)
