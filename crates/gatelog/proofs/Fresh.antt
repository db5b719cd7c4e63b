-- A file that was laid out: its slots are closed, and its log is that of its first area.
use Rattle.std.proofs.Common.{◌≡◌, ◌≢◌, inl, inr, ℕ, zero, suc, ◌+◌, ◌*◌, ◌<◌, ◌≤◌, Bool, false, true, List, [], ◌∷◌, ◌++◌, length, get_or, take, drop}
use Rattle.std.proofs.Common.{replicate, map, Ok, refl, sym, ap, ◌∙◌, append_assoc, arith}
use Rattle.std.specs.Prelude.{flat_map, ◌-◌}
use Rattle.std.specs.List.{AllByRecursion}
use Rattle.std.specs.Int.{w32, to_be_bytes}
use Rattle.std.proofs.lemmas.Bool.{cases_Bool, false≢true}
use Rattle.std.proofs.lemmas.Bool.Decides.{nat_tests}
use Rattle.std.specs.Prelude.{bytes_eq, nat_lt}
use Rattle.std.proofs.lemmas.Slice.Eq.{bytes_eq-Decides}
use Rattle.std.proofs.lemmas.List.{take_at, drop_at, length-append, length-replicate, get_or-replicate, get_or_append_left, drop-drop}
use Rattle.std.proofs.lemmas.List.{get_or-take, append-nil}
use Rattle.record.specs.declared.record.Record.{Record}
use Rattle.spelling.specs.Grammar.{spelling}
use Rattle.spelling.specs.Limits.{IsRecord}
use Rattle.spelling.proofs.Again.{wide32}
use Rattle.frames.specs.Placed.{Placed}
use Rattle.frames.specs.Gate.{open_gate}
use Rattle.gatelog.specs.Gates.{first_gate}
use Rattle.gatelog.specs.Frames.{header, next_gate, end_from}
use Rattle.gatelog.specs.Areas.{placed_from, whole_frame, area_bytes, behind_header, without_header, fresh_with}
use Rattle.gatelog.specs.Laid.{HoldsBehind, HasNoneOr}
use Rattle.frames.specs.Entries.{entries_at}
use Rattle.gatelog.specs.Log.{scan, entries_of}
use Rattle.gatelog.specs.Slots.{slot_count, named, area_of}
use Rattle.frames.proofs.Bytes.{take_agrees, get-drop}
use Rattle.gatelog.proofs.Named.{closed_named, none_left}
use Rattle.gatelog.proofs.Areas.{scan-from, area-scanned}
use Rattle.gatelog.proofs.Goes.{gate_within, gate_closed}
use Rattle.gatelog.proofs.Images.{stays_closed}
use Rattle.gatelog.proofs.Reading.{no_header}

-- slots whose gates are 0 name no other area
pub none-open : (left at area : ℕ) (shut : Bool) (size : ℕ) (xs : List ℕ) → at + 9 * left ≤ size → ((i : ℕ) → i < 9 * left → get_or xs i 0 ≡ 0)
    → named left at area shut size xs ≡ Ok area
none-open zero at area shut size xs long all = none_left at area shut size xs
none-open (suc left) at area shut size xs long all =
    closed_named left at area shut size xs (omega (arith, long)) (λ e. absurd (omega (arith, e, all 0 (omega arith))))
    ∙ none-open left (at + 9) area true size (drop 9 xs) (omega (arith, long)) (λ i lt. get-drop 9 xs i ∙ all (9 + i) (omega (arith, lt)))

module _ (items : List Record) where
  closed-size : length {A = ℕ} (replicate (9 * slot_count) 0) ≡ 9216
  closed-size = length-replicate {A = ℕ} (9 * slot_count) 0

  behind-size : length (behind_header items) ≡ 9216 + length (area_bytes items)
  behind-size = length-append (replicate (9 * slot_count) 0) (area_bytes items) ∙ ap (λ n. n + length (area_bytes items)) closed-size

  pub fresh-size : length (fresh_with items) ≡ 9224 + length (area_bytes items)
  fresh-size = omega (arith, length-append header (behind_header items), behind-size)

  pub bare-size : length (without_header items) ≡ 9224 + length (area_bytes items)
  bare-size = omega (arith, length-append (replicate 8 0) (behind_header items), length-replicate {A = ℕ} 8 0, behind-size)

  fresh-head : take 8 (fresh_with items) ≡ header
  fresh-head = take_at header (behind_header items) 8 refl

  fresh-behind : drop 8 (fresh_with items) ≡ behind_header items
  fresh-behind = drop_at header (behind_header items) 8 refl

  pub bare-behind : drop 8 (without_header items) ≡ behind_header items
  bare-behind = drop_at (replicate 8 0) (behind_header items) 8 refl

  pub area-fresh : area_of (fresh_with items) ≡ Ok first_gate
  area-fresh =
      none-open slot_count 8 first_gate false (length (fresh_with items)) (drop 8 (fresh_with items)) (omega (arith, fresh-size)) (λ i lt.
      ap (λ (l : List ℕ). get_or l i 0) fresh-behind
      ∙ get_or_append_left (replicate (9 * slot_count) 0) (area_bytes items) 0 i (omega (arith, lt, closed-size))
      ∙ get_or-replicate (9 * slot_count) i 0 0 lt)

  first-there : drop first_gate (fresh_with items) ≡ area_bytes items
  first-there =
      sym (drop-drop 9216 8 (fresh_with items)) ∙ ap (λ (l : List ℕ). drop 9216 l) fresh-behind
      ∙ drop_at (replicate (9 * slot_count) 0) (area_bytes items) 9216 closed-size

-- what it is read as
pub scan-fresh : (items : List Record) → AllByRecursion IsRecord items → scan (fresh_with items) ≡ Ok (placed_from first_gate items)
scan-fresh items all =
    scan-from (fresh_with items) first_gate (fresh-head items) (area-fresh items)
    ∙ ap (λ (l : List ℕ). entries_at first_gate 0 l) (first-there items ∙ sym (append-nil (area_bytes items)))
    ∙ area-scanned items first_gate [] all

-- where its records are
pub placed-end : (items : List Record) (at : ℕ) → (placed_from at items).1 ≡ end_from at items
placed-end [] at = refl
placed-end (r ∷ rs) at = placed-end rs (next_gate at r)

pub placed-items : (items : List Record) (at : ℕ) → map (λ (e : Placed). e.item) (placed_from at items).0 ≡ items
placed-items [] at = refl
placed-items (r ∷ rs) at = ap (λ (l : List Record). r ∷ l) (placed-items rs (next_gate at r))

pub placed-more : (items : List Record) (at : ℕ) (r : Record) → placed_from at (items ++ r ∷ [])
    ≡ ((placed_from at items).0 ++ (record { offset = (placed_from at items).1; item = r }) ∷ [], next_gate (placed_from at items).1 r)
placed-more [] at r = refl
placed-more (q ∷ rs) at r =
    ap (λ (p : List Placed × ℕ). ((record { offset = at; item = q }) ∷ p.0, p.1)) (placed-more rs (next_gate at q) r)

-- further behind by some bytes
pub placed-moved : (n : ℕ) (items : List Record) (at : ℕ)
    → (placed_from (at + n) items).0 ≡ map (λ (e : Placed). record { offset = e.offset + n; item = e.item }) (placed_from at items).0
placed-moved n [] at = refl
placed-moved n (r ∷ rs) at =
    ap (λ (l : List Placed). (record { offset = at + n; item = r }) ∷ l)
    (ap (λ (k : ℕ). (placed_from k rs).0) (order at (length (spelling r))) ∙ placed-moved n rs (next_gate at r))
  where
    order : (at size : ℕ) → at + n + 5 + size ≡ at + 5 + size + n
    order at size = omega arith

-- how long an area is
pub area-size : (items : List Record) (at : ℕ) → at + length (area_bytes items) ≡ end_from at items + 1
area-size [] at = refl
area-size (r ∷ rs) at =
    let frame : length (whole_frame r) ≡ 5 + length (spelling r) =
    omega (arith, length-append (to_be_bytes w32 (length (spelling r))) (spelling r), wide32.len (length (spelling r))) in
    let whole : length (area_bytes (r ∷ rs)) ≡ length (whole_frame r) + length (area_bytes rs) =
    ap length (append_assoc (whole_frame r) (flat_map whole_frame rs) (0 ∷ [])) ∙ length-append (whole_frame r) (area_bytes rs) in
    omega (arith, area-size rs (next_gate at r), frame, whole)

-- an image with these bytes behind its first eight has no log, or this one
module _ (items : List Record) (all : AllByRecursion IsRecord items) (image : List ℕ) (holds : HoldsBehind (without_header items) image) where
  abbrev gate : ℕ
  gate = (placed_from first_gate items).1

  there : scan (fresh_with items) ≡ Ok ((placed_from first_gate items).0, gate)
  there = scan-fresh items all

  within : (8 ≤ gate) × (gate < length (fresh_with items))
  within = gate_within (fresh_with items) (placed_from first_gate items).0 gate there

  same-size : length (without_header items) ≡ length (fresh_with items)
  same-size = bare-size items ∙ sym (fresh-size items)

  same-behind : (i : ℕ) → 8 ≤ i → i < length (fresh_with items) → get_or image i 0 ≡ get_or (fresh_with items) i 0
  same-behind i le lt =
      holds.same i le (omega (arith, lt, same-size))
      ∙ ap (λ (n : ℕ). get_or (without_header items) n 0) (split i le)
      ∙ sym (get-drop 8 (without_header items) (i - 8))
      ∙ ap (λ (l : List ℕ). get_or l (i - 8) 0) (bare-behind items ∙ sym (fresh-behind items))
      ∙ get-drop 8 (fresh_with items) (i - 8)
      ∙ ap (λ (n : ℕ). get_or (fresh_with items) n 0) (sym (split i le))
    where
      split : (i : ℕ) → 8 ≤ i → i ≡ 8 + (i - 8)
      split i le = omega (arith, le)

  module _ (headed : take 8 image ≡ header) where
    same : (i : ℕ) → i < length (fresh_with items) → get_or image i 0 ≡ get_or (fresh_with items) i 0
    same i lt = elim (cases_Bool (nat_lt i 8)) [
      | inl low ↦
          let l : i < 8 = grind (arith, nat_tests) in
          sym (get_or-take 8 image i 0 l) ∙ ap (λ (xs : List ℕ). get_or xs i 0) (headed ∙ sym (fresh-head items)) ∙ get_or-take 8 (fresh_with items) i 0 l
      | inr high ↦ same-behind i (grind (arith, nat_tests)) lt
    ]

    shut : get_or (fresh_with items) gate 0 ≢ open_gate
    shut = gate_closed (fresh_with items) (placed_from first_gate items).0 gate there

    pub has-log : scan image ≡ Ok (placed_from first_gate items)
    has-log =
        stays_closed (fresh_with items) image (placed_from first_gate items).0 gate there
        (take_agrees image (fresh_with items) gate (omega (arith, within.1, same-size, holds.long)) (omega (arith, within.1))
        (λ i lt. same i (omega (arith, lt, within.1))))
        (omega (arith, within.1, same-size, holds.long))
        (λ e. shut (sym (same gate within.1) ∙ e))

  pub none-or-log : HasNoneOr (placed_from first_gate items).0 image
  none-or-log = elim (cases_Bool (bytes_eq (take 8 image) header)) [
    | inl is ↦ inr (ap entries_of (has-log ((bytes_eq-Decides (take 8 image) header).0 is)))
    | inr other ↦ inl (ap entries_of (no_header image (λ e. false≢true (sym other ∙ (bytes_eq-Decides (take 8 image) header).1 e))))
  ]
