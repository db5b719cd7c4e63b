-- How many slots of a file are open.
use Rattle.std.proofs.Common.{◌≡◌, ◌≢◌, inl, inr, ℕ, zero, suc, ◌+◌, ◌<◌, ◌≤◌, eqb, true, false, List, get_or, drop, refl, sym, ap, ◌∙◌, arith}
use Rattle.std.proofs.lemmas.Bool.{cases_eq, eq-eqb, ne_eqb}
use Rattle.std.proofs.lemmas.List.{drop-drop}
use Rattle.frames.specs.Gate.{open_gate}
use Rattle.gatelog.specs.Gates.{first_gate}
use Rattle.gatelog.specs.Slots.{Beginning, slot_count, slot_at, open_slots, begins_in}
use Rattle.gatelog.specs.Turns.{IsNextOrNone}
use Rattle.frames.proofs.Bytes.{get-drop}

pub same-beginning : (a b m n : ℕ) → a ≡ b → m ≡ n → ◌≡◌ {A = Beginning} (record { at = a; slots = m }) (record { at = b; slots = n })
same-beginning a b m n at slots =
    ap (λ (k : ℕ). record { at = k; slots = m }) at ∙ ap (λ (k : ℕ). record { at = b; slots = k }) slots

none-left : (bytes : List ℕ) → open_slots zero bytes ≡ 0
unfolding open_slots
none-left bytes = refl

one-open : (left : ℕ) (bytes : List ℕ) → get_or bytes 0 0 ≡ open_gate → open_slots (suc left) bytes ≡ suc (open_slots left (drop 9 bytes))
unfolding open_slots
one-open left bytes opened =
    let a : eqb (get_or bytes 0 0) open_gate ≡ true = eq-eqb _ _ opened in
    rw a refl

one-closed : (left : ℕ) (bytes : List ℕ) → get_or bytes 0 0 ≢ open_gate → open_slots (suc left) bytes ≡ 0
unfolding open_slots
one-closed left bytes closed =
    let a : eqb (get_or bytes 0 0) open_gate ≡ false = ne_eqb _ _ closed in
    rw a refl

behind-slot : (m : ℕ) (image : List ℕ) → drop 9 (drop (slot_at m) image) ≡ drop (slot_at (m + 1)) image
behind-slot m image = drop-drop 9 (slot_at m) image ∙ ap (λ (n : ℕ). drop n image) (omega arith)

-- the slots from one on, where those before the next one are open
count-from : (image : List ℕ) (slot left m : ℕ) → m + left ≡ slot_count → m ≤ slot → IsNextOrNone image slot
    → m + open_slots left (drop (slot_at m) image) ≡ slot
count-from image slot zero m all le next =
    let within = next.within in
    omega (arith, none-left (drop (slot_at m) image), all, le, within)
count-from image slot (suc left) m all le next = elim (cases_eq m slot) [
  | inl here ↦
      let closed : get_or (drop (slot_at m) image) 0 0 ≢ open_gate =
      λ (e : get_or (drop (slot_at m) image) 0 0 ≡ open_gate). next.shut (omega (arith, all, here))
      (ap (λ (n : ℕ). get_or image n 0) (omega (arith, here)) ∙ (sym (get-drop (slot_at m) image 0) ∙ e)) in
      omega (arith, here, one-closed left (drop (slot_at m) image) closed)
  | inr differs ↦
      let opened : get_or (drop (slot_at m) image) 0 0 ≡ open_gate =
      get-drop (slot_at m) image 0 ∙ ap (λ (n : ℕ). get_or image n 0) (omega arith) ∙ next.former m (omega (arith, le, differs)) in
      let more = one-open left (drop (slot_at m) image) opened ∙ ap (λ (l : List ℕ). suc (open_slots left l)) (behind-slot m image) in
      omega (arith, more, count-from image slot left (m + 1) (omega (arith, all)) (omega (arith, le, differs)) next)
]

-- as many are open as the number of the next one
pub counted : (image : List ℕ) (slot : ℕ) → IsNextOrNone image slot → (begins_in image).slots ≡ slot
counted image slot next = omega (arith, count-from image slot slot_count 0 refl (omega arith) next)

-- files with the same slots have as many open
same-from : (image other : List ℕ) (left m : ℕ) → m + left ≡ slot_count → ((i : ℕ) → i < first_gate → get_or other i 0 ≡ get_or image i 0)
    → open_slots left (drop (slot_at m) other) ≡ open_slots left (drop (slot_at m) image)
same-from image other zero m all same = none-left (drop (slot_at m) other) ∙ sym (none-left (drop (slot_at m) image))
same-from image other (suc left) m all same =
    let gate : get_or (drop (slot_at m) other) 0 0 ≡ get_or (drop (slot_at m) image) 0 0 =
    get-drop (slot_at m) other 0 ∙ same (slot_at m + 0) (omega (arith, all)) ∙ sym (get-drop (slot_at m) image 0) in
    elim (cases_eq (get_or (drop (slot_at m) image) 0 0) open_gate) [
      | inl opened ↦
          one-open left (drop (slot_at m) other) (gate ∙ opened)
          ∙ ap (λ (l : List ℕ). suc (open_slots left l)) (behind-slot m other)
          ∙ ap (λ (n : ℕ). suc n) (same-from image other left (m + 1) (omega (arith, all)) same)
          ∙ ap (λ (l : List ℕ). suc (open_slots left l)) (sym (behind-slot m image))
          ∙ sym (one-open left (drop (slot_at m) image) opened)
      | inr closed ↦
          one-closed left (drop (slot_at m) other) (λ e. closed (sym gate ∙ e)) ∙ sym (one-closed left (drop (slot_at m) image) closed)
    ]

pub same-slots-open : (image other : List ℕ) → ((i : ℕ) → i < first_gate → get_or other i 0 ≡ get_or image i 0)
    → (begins_in other).slots ≡ (begins_in image).slots
same-slots-open image other same = same-from image other slot_count 0 refl same
