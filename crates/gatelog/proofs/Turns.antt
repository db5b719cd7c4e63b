-- What a crash leaves of a turnover.
use Rattle.std.proofs.Common.{◌≡◌, ◌≢◌, ◌⊎◌, inl, inr, ℕ, zero, suc, ◌+◌, ◌-◌, ◌<◌, ◌≤◌, nat_lt, eqb, if◌then◌else◌, Bool, true, false, List, [], ◌∷◌}
use Rattle.std.proofs.Common.{◌++◌, length, get_or, take, drop, flat_map, Result, Ok, refl, sym, ap, subst, ◌∙◌, arith}
use Rattle.std.specs.Int.{w64, from_be_bytes}
use Rattle.std.proofs.lemmas.Bool.{cases_eq, eq-eqb, ne_eqb}
use Rattle.std.proofs.lemmas.Bool.Decides.{nat_tests}
use Rattle.std.proofs.lemmas.List.{length-append, length-drop, take-append-drop}
use Rattle.std.proofs.lemmas.List.{append-nil, drop_more, drop-drop}
use Rattle.units.specs.declared.fault.Fault.{Fault}
use Rattle.record.specs.declared.record.Record.{Record}
use Rattle.spelling.proofs.Again.{wide64}
use Rattle.disk.specs.Image.{Surface, MayLeave, IsUntouched, with_bytes, tried_write, after_sync}
use Rattle.disk.proofs.Runs.{get_or-with_bytes, after_write_within}
use Rattle.frames.specs.Placed.{Placed}
use Rattle.frames.specs.Gate.{open_gate}
use Rattle.gatelog.specs.Gates.{first_gate}
use Rattle.frames.specs.Entries.{entries_at}
use Rattle.gatelog.specs.Log.{scan}
use Rattle.gatelog.specs.Frames.{header}
use Rattle.gatelog.specs.Areas.{whole_frame, area_bytes, placed_from}
use Rattle.gatelog.specs.Slots.{Beginning, slot_count, slot_at, offset_in, area_of, offset_bytes, begins_at, begins_in}
use Rattle.frames.proofs.Scan.{with_entries, closed_step}
use Rattle.frames.proofs.Bytes.{take_agrees, take-all, get-drop, drops-agree, inside, sized}
use Rattle.gatelog.specs.Turns.{MayTurn, IsTurnover, IsLogFrom, IsNextOrNone, with_area, with_offset, prepared, named_new}
use Rattle.gatelog.proofs.Named.{IsSameSlot, SameSlots, Turned, same-named, turned-named}
use Rattle.gatelog.proofs.Counted.{same-beginning, counted}
use Rattle.gatelog.proofs.Next.{next-after}
use Rattle.gatelog.proofs.Areas.{HasLog, log_parts, scan-from, area-goes_on, gate-shut, area-scanned}

-- ---- slots that lie apart

apart : (m j i : ℕ) → m ≢ j → i < 9 → (slot_at m + i < slot_at j) ⊎ (slot_at j + 9 ≤ slot_at m + i)
apart m j i other lt = by_test (nat_lt m j) refl
  where
    by_test : (b : Bool) → nat_lt m j ≡ b → (slot_at m + i < slot_at j) ⊎ (slot_at j + 9 ≤ slot_at m + i)
    by_test true k = let l : m < j = grind (arith, nat_tests) in inl (omega (arith, l, lt))
    by_test false k = let l : j ≤ m = grind (arith, nat_tests) in inr (omega (arith, l, other))

module _ (image other : List ℕ) (j : ℕ) (long : first_gate ≤ length image) (long_too : first_gate ≤ length other)
    (same : (i : ℕ) → i < first_gate → (i < slot_at j) ⊎ (slot_at j + 9 ≤ i) → get_or other i 0 ≡ get_or image i 0) where
  slot-gate : (m : ℕ) → m < slot_count → m ≢ j → get_or (drop (slot_at m) other) 0 0 ≡ get_or (drop (slot_at m) image) 0 0
  slot-gate m lt differs =
      get-drop (slot_at m) other 0 ∙ same (slot_at m + 0) (omega (arith, lt)) (apart m j 0 differs (omega arith)) ∙ sym (get-drop (slot_at m) image 0)

  slot-offset : (m : ℕ) → m < slot_count → m ≢ j → offset_in (drop (slot_at m) other) ≡ offset_in (drop (slot_at m) image)
  slot-offset m lt differs =
      ap (from_be_bytes w64)
      (ap (take 8) (drop-drop 1 (slot_at m) other)
      ∙ drops-agree other image (slot_at m + 1) 8 (omega (arith, lt, long_too)) (omega (arith, lt, long)) (λ i in_it.
      ap (λ (n : ℕ). get_or other n 0) (place i)
      ∙ same (slot_at m + (1 + i)) (omega (arith, lt, in_it)) (apart m j (1 + i) differs (omega (arith, in_it)))
      ∙ sym (ap (λ (n : ℕ). get_or image n 0) (place i)))
      ∙ sym (ap (take 8) (drop-drop 1 (slot_at m) image)))
    where
      place : (i : ℕ) → (slot_at m + 1) + i ≡ slot_at m + (1 + i)
      place i = omega arith

  same-slot : (m : ℕ) → m < slot_count → m ≢ j → IsSameSlot (drop (slot_at m) image) (drop (slot_at m) other)
  same-slot m lt differs =
      (λ opened. (slot-gate m lt differs ∙ opened, slot-offset m lt differs), λ closed opened. closed (sym (slot-gate m lt differs) ∙ opened))

  next-slot : (m : ℕ) (l : List ℕ) → drop 9 (drop (slot_at m) l) ≡ drop (slot_at (m + 1)) l
  next-slot m l = drop-drop 9 (slot_at m) l ∙ ap (λ (n : ℕ). drop n l) (omega arith)

  -- the slots from one on, where the one that may differ is closed in both
  pub same-slots : (left m : ℕ) → m + left ≡ slot_count → get_or image (slot_at j) 0 ≢ open_gate → get_or other (slot_at j) 0 ≢ open_gate
      → SameSlots left (drop (slot_at m) image) (drop (slot_at m) other)
  same-slots zero m all shut shut_too = tt
  same-slots (suc left) m all shut shut_too = (
    elim (cases_eq m j) [
      | inl here ↦ (
        λ opened. absurd (shut (ap (λ (n : ℕ). get_or image n 0) (omega (arith, here)) ∙ (sym (get-drop (slot_at m) image 0) ∙ opened))),
        λ closed opened. shut_too (ap (λ (n : ℕ). get_or other n 0) (omega (arith, here)) ∙ (sym (get-drop (slot_at m) other 0) ∙ opened)),
      )
      | inr differs ↦ same-slot m (omega (arith, all)) differs
    ],
    subst (λ (l : List ℕ). SameSlots left l (drop 9 (drop (slot_at m) other))) (sym (next-slot m image))
        (subst (λ (l : List ℕ). SameSlots left (drop (slot_at (m + 1)) image) l) (sym (next-slot m other))
        (same-slots left (m + 1) (omega (arith, all)) shut shut_too)),
  )

  -- those behind the one that differs
  same-behind : (left m : ℕ) → m + left ≡ slot_count → j < m → SameSlots left (drop (slot_at m) image) (drop (slot_at m) other)
  same-behind zero m all lt = tt
  same-behind (suc left) m all lt = (
    same-slot m (omega (arith, all)) (λ (e : m ≡ j). absurd (omega (arith, e, lt))),
    subst (λ (l : List ℕ). SameSlots left l (drop 9 (drop (slot_at m) other))) (sym (next-slot m image))
        (subst (λ (l : List ℕ). SameSlots left (drop (slot_at (m + 1)) image) l) (sym (next-slot m other))
        (same-behind left (m + 1) (omega (arith, all)) (omega (arith, lt)))),
  )

  -- the slots from one on, where the next one is opened
  pub turned-slots : (k left m o : ℕ) → m + k ≡ j → m + left ≡ slot_count → j < slot_count → ((i : ℕ) → i < j → get_or image (slot_at i) 0 ≡ open_gate)
      → get_or image (slot_at j) 0 ≢ open_gate → get_or other (slot_at j) 0 ≡ open_gate → offset_in (drop (slot_at j) other) ≡ o
      → Turned k left (drop (slot_at m) image) (drop (slot_at m) other) o
  turned-slots k zero m o at all lt former shut opened offset = absurd (omega (arith, at, all, lt))
  turned-slots zero (suc left) m o at all lt former shut opened offset =
      let here : m ≡ j = omega (arith, at) in (
        (λ (e : get_or (drop (slot_at m) image) 0 0 ≡ open_gate). shut (ap (λ (n : ℕ). get_or image n 0) (omega (arith, here))
            ∙ (sym (get-drop (slot_at m) image 0) ∙ e))),
        get-drop (slot_at m) other 0 ∙ ap (λ (n : ℕ). get_or other n 0) (omega (arith, here)) ∙ opened,
        ap (λ (n : ℕ). offset_in (drop (slot_at n) other)) here ∙ offset,
        subst (λ (l : List ℕ). SameSlots left l (drop 9 (drop (slot_at m) other))) (sym (next-slot m image))
            (subst (λ (l : List ℕ). SameSlots left (drop (slot_at (m + 1)) image) l) (sym (next-slot m other))
            (same-behind left (m + 1) (omega (arith, all)) (omega (arith, here)))),
      )
  turned-slots (suc k) (suc left) m o at all lt former shut opened offset = (
    get-drop (slot_at m) image 0 ∙ ap (λ (n : ℕ). get_or image n 0) (omega arith) ∙ former m (omega (arith, at)),
    same-slot m (omega (arith, all)) (λ (e : m ≡ j). absurd (omega (arith, e, at))),
    subst (λ (l : List ℕ). Turned k left l (drop 9 (drop (slot_at m) other)) o) (sym (next-slot m image))
        (subst (λ (l : List ℕ). Turned k left (drop (slot_at (m + 1)) image) l o) (sym (next-slot m other))
        (turned-slots k left (m + 1) o (omega (arith, at)) (omega (arith, all)) lt former shut opened offset)),
  )

-- ---- a turnover

-- both that an image tells
abbrev pub told : List ℕ → Result (List Placed × ℕ) Fault × Beginning
told image = (scan image, begins_in image)

pub tells : (beginning : Beginning) (found : List Placed × ℕ) (image : List ℕ) → IsLogFrom beginning found image → told image ≡ (Ok found, beginning)
tells beginning found image is =
    ap (λ (r : Result (List Placed × ℕ) Fault). (r, begins_in image)) is.read ∙ ap (λ (b : Beginning). (Ok found, b)) is.begins

module _ (file : Surface) (es : List Placed) (gate slot : ℕ) (items : List Record) (may : MayTurn file es gate slot items) where
  has : HasLog file.seen es gate
  has = log_parts file.seen es gate may.found

  first : slot_at 0 ≡ 8
  first = refl

  -- the old log where it began, and that of the new area
  abbrev pub IsOld : List ℕ → Type 0
  IsOld = IsLogFrom (begins_in file.seen) (es, gate)

  abbrev pub IsNew : List ℕ → Type 0
  IsNew = IsLogFrom (record { at = gate + 1; slots = slot + 1 }) (placed_from (gate + 1) items)

  -- an image with the old slots and the old area has the old log
  still-old : (image : List ℕ) → length file.seen ≤ length image → get_or image (slot_at slot) 0 ≢ open_gate
      → ((i : ℕ) → i < gate + 1 → (i < slot_at slot) ⊎ (slot_at slot + 9 ≤ i) → get_or image i 0 ≡ get_or file.seen i 0) → IsOld image
  still-old image long shut same =
      let gate_at = has.ends in
      let begins = has.begins in
      let behind = has.behind in
      let low = may.next.within in
      let headed : take 8 image ≡ header =
      take_agrees image file.seen 8 (omega (arith, long, gate_at, begins, behind)) (omega (arith, gate_at, begins, behind))
      (λ i lt. same i (omega (arith, lt, begins, behind)) (inl (omega (arith, lt)))) ∙ has.is_headed in
      let slots =
      same-slots file.seen image slot (omega (arith, gate_at, begins, behind)) (omega (arith, long, gate_at, begins, behind))
      (λ i lt un. same i (omega (arith, lt, begins, behind)) un)
      slot_count 0 refl may.next.shut shut in
      let area : area_of image ≡ Ok has.area =
      same-named slot_count 8 first_gate false (length file.seen) (length image) (drop 8 file.seen) (drop 8 image) has.area has.named_there slots
      (omega (arith, long, gate_at, begins, behind, length-drop 8 image)) (omega (arith, long, gate_at, behind)) in
      let front : take (gate - has.area) (drop has.area image) ≡ take (gate - has.area) (drop has.area file.seen) =
      drops-agree image file.seen has.area (gate - has.area) (omega (arith, long, gate_at, behind)) (omega (arith, gate_at, behind))
      (λ i lt. same (has.area + i) (omega (arith, lt, behind)) (inr (omega (arith, low, begins)))) in
      let closed : get_or image gate 0 ≢ open_gate = λ (e : get_or image gate 0 ≡ open_gate).
      gate-shut file.seen es gate has (sym (same gate (omega arith) (inr (omega (arith, low, begins, behind)))) ∙ e) in
      let next : IsNextOrNone image slot = record {
        within = omega (arith, low);
        former = λ i lt. same (slot_at i) (omega (arith, lt, low, begins, behind)) (inl (omega (arith, lt))) ∙ may.next.former i lt;
        shut = λ lt. shut;
      } in
      record {
        read =
            scan-from image has.area headed area
            ∙ area-goes_on file.seen image es gate has.area has.entries behind front (omega (arith, long, gate_at))
            ∙ ap (λ (l : List ℕ). with_entries es (entries_at gate 0 l)) (drop_more image gate 0 (omega (arith, long, gate_at)))
            ∙ ap (with_entries es) (closed_step gate (get_or image gate 0) (drop (gate + 1) image) closed)
            ∙ ap (λ (l : List Placed). Ok (l, gate)) (append-nil es);
        begins = same-beginning _ _ _ _ (ap begins_at area ∙ sym (ap begins_at has.named_there))
            (counted image slot next ∙ sym (counted file.seen slot next-old));
      }
    where
      next-old : IsNextOrNone file.seen slot
      next-old =
          let low = may.next.within in
          record { within = omega (arith, low); former = may.next.former; shut = λ lt. may.next.shut }

  -- an image with the new area and the next slot open has the new log
  is-new : (image : List ℕ) → length file.seen ≤ length image → gate + 1 + length (area_bytes items) ≤ length image → get_or image (slot_at slot) 0 ≡ open_gate
      → ((i : ℕ) → i < first_gate → (i < slot_at slot) ⊎ (slot_at slot + 9 ≤ i) → get_or image i 0 ≡ get_or file.seen i 0)
      → ((i : ℕ) → i < 8 → get_or image (slot_at slot + 1 + i) 0 ≡ get_or (offset_bytes (gate + 1)) i 0)
      → ((i : ℕ) → i < length (area_bytes items) → get_or image (gate + 1 + i) 0 ≡ get_or (area_bytes items) i 0)
      → IsNew image
  is-new image long longer opened same offset area =
      let gate_at = has.ends in
      let begins = has.begins in
      let behind = has.behind in
      let low = may.next.within in
      let headed : take 8 image ≡ header =
      take_agrees image file.seen 8 (omega (arith, long, gate_at, begins, behind)) (omega (arith, gate_at, begins, behind))
      (λ i lt. same i (omega (arith, lt)) (inl (omega (arith, lt)))) ∙ has.is_headed in
      let eight : length (offset_bytes (gate + 1)) ≡ 8 = wide64.len (gate + 1) in
      let in_slot : take 8 (drop 1 (drop (slot_at slot) image)) ≡ offset_bytes (gate + 1) =
      ap (take 8) (drop-drop 1 (slot_at slot) image)
      ∙ take_agrees (drop (slot_at slot + 1) image) (offset_bytes (gate + 1)) 8
      (omega (arith, low, long, gate_at, begins, behind, length-drop (slot_at slot + 1) image)) (omega (arith, eight))
      (λ i lt. get-drop (slot_at slot + 1) image i ∙ offset i lt)
      ∙ take-all (offset_bytes (gate + 1)) 8 eight in
      let there : offset_in (drop (slot_at slot) image) ≡ gate + 1 = ap (from_be_bytes w64) in_slot ∙ wide64.again (gate + 1) may.offset_fits in
      let slots = turned-slots file.seen image slot (omega (arith, gate_at, begins, behind)) (omega (arith, long, gate_at, begins, behind)) same
      slot slot_count 0 (gate + 1) (omega arith) refl low may.next.former may.next.shut opened there in
      let enough : 0 < length (area_bytes items) = some-bytes in
      let named_it : area_of image ≡ Ok (gate + 1) =
      turned-named slot slot_count 8 first_gate (length file.seen) (length image) (gate + 1) (drop 8 file.seen) (drop 8 image) has.area has.named_there slots
      (omega (arith, long, gate_at, begins, behind, length-drop 8 image)) long (omega (arith, behind)) (omega (arith, longer, enough)) in
      let n = length (area_bytes items) in
      let front : take n (drop (gate + 1) image) ≡ area_bytes items =
      take_agrees (drop (gate + 1) image) (area_bytes items) n (omega (arith, longer, length-drop (gate + 1) image)) (omega arith)
      (λ i lt. get-drop (gate + 1) image i ∙ area i lt)
      ∙ take-all (area_bytes items) n refl in
      let parts : drop (gate + 1) image ≡ area_bytes items ++ drop n (drop (gate + 1) image) =
      sym (take-append-drop n (drop (gate + 1) image)) ∙ ap (λ (l : List ℕ). l ++ drop n (drop (gate + 1) image)) front in
      let one : suc slot ≡ slot + 1 = omega arith in
      record {
        read =
            scan-from image (gate + 1) headed named_it
            ∙ ap (λ (l : List ℕ). entries_at (gate + 1) 0 l) parts
            ∙ area-scanned items (gate + 1) (drop n (drop (gate + 1) image)) may.items_fit;
        begins = same-beginning _ _ _ _ (ap begins_at named_it)
            (counted image (suc slot) (next-after file.seen image es gate slot may.found may.next opened same) ∙ one);
      }
    where
      some-bytes : 0 < length (area_bytes items)
      some-bytes = omega (arith, length-append (flat_map whole_frame items) (0 ∷ []))

  -- ---- the calls

  no_ranges : (place : ℕ) → IsUntouched place file.written
  no_ranges place = subst (λ ranges. IsUntouched place ranges) (sym may.synced.none) tt

  shut-gate : (image : List ℕ) → get_or image (slot_at slot) 0 ≡ get_or file.seen (slot_at slot) 0 → get_or image (slot_at slot) 0 ≢ open_gate
  shut-gate image same e = may.next.shut (sym same ∙ e)

  while-area : (image : List ℕ) → MayLeave (tried_write (gate + 1) (length (area_bytes items)) file) image → IsOld image
  while-area image left =
      let low = may.next.within in
      let begins = has.begins in
      let behind = has.behind in
      let gate_at = has.ends in
      let same : (i : ℕ) → i < gate + 1 → get_or image i 0 ≡ get_or file.seen i 0 =
      λ i lt. left.untouched i (omega (arith, lt, gate_at, may.synced.whole)) (inl lt, no_ranges i) in
      still-old image (omega (arith, left.no_shorter, may.synced.whole)) (shut-gate image (same (slot_at slot) (omega (arith, low, begins, behind))))
      (λ i lt un. same i lt)

  -- the file with the new area
  abbrev pub grown : List ℕ
  grown = with_bytes (gate + 1) (area_bytes items) file.seen

  grown-size : (length file.seen ≤ length grown) × (gate + 1 + length (area_bytes items) ≤ length grown)
  grown-size = sized (gate + 1) (area_bytes items) file.seen (omega (arith, has.ends))

  grown-front : (i : ℕ) → i < gate + 1 → get_or grown i 0 ≡ get_or file.seen i 0
  grown-front i lt = get_or-with_bytes (gate + 1) (area_bytes items) file.seen i (omega (arith, has.ends)) (inl lt)

  while-offset : (image : List ℕ) → MayLeave (tried_write (slot_at slot + 1) 8 (with_area gate items file)) image → IsOld image
  while-offset image left =
      let low = may.next.within in
      let begins = has.begins in
      let behind = has.behind in
      let gate_at = has.ends in
      let same : (i : ℕ) → i < gate + 1 → (i < slot_at slot + 1) ⊎ (slot_at slot + 1 + 8 ≤ i) → get_or image i 0 ≡ get_or file.seen i 0 =
      λ i lt un. left.untouched i (omega (arith, lt, gate_at, may.synced.whole)) (un, (inl lt, no_ranges i)) ∙ grown-front i lt in
      still-old image (omega (arith, left.no_shorter, may.synced.whole))
      (shut-gate image (same (slot_at slot) (omega (arith, low, begins, behind)) (inl (omega arith))))
      (λ i lt un. same i lt (wider i un))
    where
      wider : (i : ℕ) → (i < slot_at slot) ⊎ (slot_at slot + 9 ≤ i) → (i < slot_at slot + 1) ⊎ (slot_at slot + 1 + 8 ≤ i)
      wider i (inl lt) = inl (omega (arith, lt))
      wider i (inr le) = inr (omega (arith, le))

  slot-low : slot_at slot + 9 ≤ first_gate
  slot-low = omega (arith, may.next.within)

  while-both : (image : List ℕ) → MayLeave (with_offset slot gate items file) image → IsOld image
  while-both image left =
      while-offset image
      (after_write_within (slot_at slot + 1) (offset_bytes (gate + 1)) (with_area gate items file)
      (omega (arith, slot-low, has.begins, has.behind, has.ends, grown-size.0)) image left)

  -- with its offset in the slot
  abbrev pub staged : List ℕ
  staged = with_bytes (slot_at slot + 1) (offset_bytes (gate + 1)) grown

  pub grown-long : slot_at slot + 9 ≤ length grown
  grown-long = omega (arith, slot-low, has.begins, has.behind, has.ends, grown-size.0)

  pub staged-size : (length grown ≤ length staged) × (slot_at slot + 1 + 8 ≤ length staged)
  staged-size = sized (slot_at slot + 1) (offset_bytes (gate + 1)) grown (omega (arith, grown-long))

  staged-apart : (i : ℕ) → (i < slot_at slot + 1) ⊎ (slot_at slot + 1 + 8 ≤ i) → get_or staged i 0 ≡ get_or grown i 0
  staged-apart i un = get_or-with_bytes (slot_at slot + 1) (offset_bytes (gate + 1)) grown i (omega (arith, grown-long)) un

  staged-front : (i : ℕ) → i < gate + 1 → (i < slot_at slot) ⊎ (slot_at slot + 9 ≤ i) → get_or staged i 0 ≡ get_or file.seen i 0
  staged-front i lt un = staged-apart i (wider un) ∙ grown-front i lt
    where
      wider : (i < slot_at slot) ⊎ (slot_at slot + 9 ≤ i) → (i < slot_at slot + 1) ⊎ (slot_at slot + 1 + 8 ≤ i)
      wider (inl lt) = inl (omega (arith, lt))
      wider (inr le) = inr (omega (arith, le))

  staged-offset : (i : ℕ) → i < 8 → get_or staged (slot_at slot + 1 + i) 0 ≡ get_or (offset_bytes (gate + 1)) i 0
  staged-offset i lt = inside (slot_at slot + 1) (offset_bytes (gate + 1)) grown i (omega (arith, grown-long)) lt

  staged-area : (i : ℕ) → i < length (area_bytes items) → get_or staged (gate + 1 + i) 0 ≡ get_or (area_bytes items) i 0
  staged-area i lt =
      staged-apart (gate + 1 + i) (inr (omega (arith, slot-low, has.begins, has.behind)))
      ∙ inside (gate + 1) (area_bytes items) file.seen i (omega (arith, has.ends)) lt

  -- an image that is as it was staged but for the slot's gate has the old log or the new one, by that gate
  from-staged : (image : List ℕ) → length staged ≤ length image
      → ((i : ℕ) → i < length staged → (i < slot_at slot) ⊎ (slot_at slot + 1 ≤ i) → get_or image i 0 ≡ get_or staged i 0)
      → (get_or image (slot_at slot) 0 ≡ open_gate → IsNew image) × (get_or image (slot_at slot) 0 ≢ open_gate → IsOld image)
  from-staged image long same = (
    λ opened. is-new image (omega (arith, long, grown-size.0, staged-size.0)) (omega (arith, long, grown-size.1, staged-size.0)) opened
        (λ i lt un. same i (omega (arith, lt, has.begins, has.behind, has.ends, grown-size.0, staged-size.0)) (closer i un)
        ∙ staged-front i (omega (arith, lt, has.begins, has.behind)) un)
        (λ i lt. same (slot_at slot + 1 + i) (omega (arith, lt, staged-size.1)) (inr (omega arith)) ∙ staged-offset i lt)
        (λ i lt. same (gate + 1 + i) (omega (arith, lt, grown-size.1, staged-size.0)) (inr (omega (arith, slot-low, has.begins, has.behind)))
        ∙ staged-area i lt),
    λ shut. still-old image (omega (arith, long, grown-size.0, staged-size.0)) shut
        (λ i lt un. same i (omega (arith, lt, has.ends, grown-size.0, staged-size.0)) (closer i un) ∙ staged-front i lt un),
  )
    where
      closer : (i : ℕ) → (i < slot_at slot) ⊎ (slot_at slot + 9 ≤ i) → (i < slot_at slot) ⊎ (slot_at slot + 1 ≤ i)
      closer i (inl lt) = inl lt
      closer i (inr le) = inr (omega (arith, le))

  by-gate : (image : List ℕ) → length staged ≤ length image
      → ((i : ℕ) → i < length staged → (i < slot_at slot) ⊎ (slot_at slot + 1 ≤ i) → get_or image i 0 ≡ get_or staged i 0)
      → IsOld image ⊎ IsNew image
  by-gate image long same =
      let p = from-staged image long same in
      elim (cases_eq (get_or image (slot_at slot) 0) open_gate) [ inl opened ↦ inr (p.0 opened) | inr shut ↦ inl (p.1 shut) ]

  while-opening : (image : List ℕ) → MayLeave (tried_write (slot_at slot) 1 (prepared slot gate items file)) image
      → IsOld image ⊎ IsNew image
  while-opening image left = by-gate image left.no_shorter (λ i lt un. left.untouched i lt (un, tt))

  while-open : (image : List ℕ) → MayLeave (named_new slot gate items file) image
      → IsOld image ⊎ IsNew image
  while-open image left =
      while-opening image
      (after_write_within (slot_at slot) (open_gate ∷ []) (prepared slot gate items file) (omega (arith, staged-size.1)) image left)

  abbrev pub old : Result (List Placed × ℕ) Fault × Beginning
  old = (Ok (es, gate), begins_in file.seen)

  abbrev pub new : Result (List Placed × ℕ) Fault × Beginning
  new = (Ok (placed_from (gate + 1) items), record { at = gate + 1; slots = slot + 1 })

  -- with any byte at the slot's gate
  pub with-byte : (byte : ℕ) → told (with_bytes (slot_at slot) (byte ∷ []) staged) ≡ (if eqb byte open_gate then new else old)
  with-byte byte =
      let image = with_bytes (slot_at slot) (byte ∷ []) staged in
      let size = sized (slot_at slot) (byte ∷ []) staged (omega (arith, staged-size.1)) in
      let p = from-staged image size.0 (λ i lt un. get_or-with_bytes (slot_at slot) (byte ∷ []) staged i (omega (arith, staged-size.1)) un) in
      let at : get_or image (slot_at slot) 0 ≡ byte =
      ap (λ (n : ℕ). get_or image n 0) (omega arith) ∙ inside (slot_at slot) (byte ∷ []) staged 0 (omega (arith, staged-size.1)) (omega arith) in
      elim (cases_eq byte open_gate) [
        | inl opened ↦ tells _ _ image (p.0 (at ∙ opened)) ∙ sym (rw (eq-eqb byte open_gate opened) refl)
        | inr shut ↦ tells _ _ image (p.1 (λ e. shut (sym at ∙ e))) ∙ sym (rw (ne_eqb byte open_gate shut) refl)
      ]

  pub is-staged : IsOld staged
  is-staged =
      (from-staged staged (omega arith) (λ i lt un. refl)).1
      (shut-gate staged (staged-apart (slot_at slot) (inl (omega arith)) ∙ grown-front (slot_at slot) (omega (arith, slot-low, has.begins, has.behind))))

  pub named-new : IsNew (named_new slot gate items file).seen
  named-new =
      let is : told (named_new slot gate items file).seen ≡ new = with-byte open_gate in
      record {
        read = ap (λ (t : Result (List Placed × ℕ) Fault × Beginning). t.0) is;
        begins = ap (λ (t : Result (List Placed × ℕ) Fault × Beginning). t.1) is;
      }

  done : (image : List ℕ) → MayLeave (after_sync (named_new slot gate items file)) image → IsNew image
  done image left = subst IsNew (sym (left.unchanged refl)) named-new

  pub is-turnover : IsTurnover file es gate slot items
  is-turnover = record { call_0 = while-area; call_1 = while-offset; call_2 = while-both; call_3 = while-opening; call_4 = while-open; done = done }
