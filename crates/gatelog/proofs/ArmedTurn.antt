-- What a turnover leaves whose call of some number fails.
use Rattle.std.proofs.Common.{◌≡◌, ◌⊎◌, inl, inr, ℕ, zero, suc, ◌+◌, ◌-◌, ◌≤◌, ◌||◌, eqb, Bool, true, false, if◌then◌else◌, List, [], ◌∷◌, length, get_or}
use Rattle.std.proofs.Common.{Result, Ok, refl, sym, subst, ap, ◌∙◌, arith}
use Rattle.std.specs.Prelude.{nat_le, nat_lt}
use Rattle.std.proofs.lemmas.Bool.{ne_eqb, le-leb, lt-leb, le-ltb, false≢true}
use Rattle.units.specs.declared.fault.Fault.{Fault}
use Rattle.record.specs.declared.record.Record.{Record}
use Rattle.spelling.proofs.Again.{wide64}
use Rattle.disk.specs.declared.plan.FailurePlan.{FailurePlan}
use Rattle.disk.specs.declared.plan.FailurePlan.TheVariants.{Never, After, AfterWrite}
use Rattle.disk.specs.declared.plan.Fate.{Fate}
use Rattle.disk.specs.declared.plan.Fate.TheVariants.{Old, New, Filled}
use Rattle.disk.specs.Image.{Surface, MayLeave, with_bytes, tried_write, after_write}
use Rattle.disk.specs.File.{File, FileChange, wrote, tried, with_change, synced, surface, by_fate, crash_leaves, laid, none_of}
use Rattle.disk.specs.Planned.{fails, next, at_write}
use Rattle.disk.proofs.Crashes.{crashed_may, seen_may, wrote_surface, laid_is}
use Rattle.frames.specs.Placed.{Placed}
use Rattle.frames.specs.Gate.{open_gate}
use Rattle.gatelog.specs.Gates.{opens_gate}
use Rattle.frames.specs.Calls.{fails_in_two, after_two, two_made, fails_in_append, appended}
use Rattle.gatelog.specs.Log.{scan}
use Rattle.gatelog.specs.Areas.{area_bytes, placed_from}
use Rattle.gatelog.specs.Slots.{Beginning, slot_at, offset_bytes, begins_in}
use Rattle.gatelog.proofs.Armed.{fails_by_call}
use Rattle.gatelog.specs.Turns.{MayTurn, IsTurnover, IsLogFrom, with_area, with_offset}
use Rattle.gatelog.specs.ArmedTurn.{turned, fails_in_turnover, is_read_turn, is_left_turn, IsArmedTurn}
use Rattle.gatelog.proofs.Areas.{log_parts}
use Rattle.gatelog.proofs.Turns.{told, tells, staged, staged-size, grown-long, with-byte, is-staged, is-turnover}

-- ---- calls that do not fail

neither : (one two : Bool) → (one || two) ≡ false → (one ≡ false) × (two ≡ false)
neither true two none = absurd (false≢true (sym none))
neither false two none = (refl, none)

two-whole : (plan : FailurePlan) (at : ℕ) (bytes : List ℕ) (file : File) → fails_in_two plan ≡ false →
    two_made plan at bytes file ≡ synced (with_change (wrote at bytes) file)
two-whole plan at bytes file none =
    by_calls (fails (at_write plan)) (fails (next (at_write plan)))
    (neither (fails (at_write plan)) (fails (next (at_write plan))) none)
  where
    by_calls : (one two : Bool) → (one ≡ false) × (two ≡ false)
        → (if one then with_change (tried at bytes) file else (if two then with_change (wrote at bytes) file else synced
        (with_change (wrote at bytes) file))) ≡ synced (with_change (wrote at bytes) file)
    by_calls one two none = rw (none.0, none.1) refl

append-whole : (plan : FailurePlan) (gate : ℕ) (bytes : List ℕ) (file : File) → fails_in_append plan ≡ false →
    appended plan gate bytes file ≡ synced (with_change (wrote gate (open_gate ∷ [])) (synced (with_change (wrote (gate + 1) bytes) file)))
append-whole plan gate bytes file none =
    let halves = neither (fails_in_two plan) (fails_in_two (after_two plan)) none in
    let half = two_made plan (gate + 1) bytes file in
    ap (λ (b : Bool). if b then half else two_made (after_two plan) gate (open_gate ∷ []) half) halves.0
    ∙ two-whole (after_two plan) gate (open_gate ∷ []) half halves.1
    ∙ ap (λ (f : File). synced (with_change (wrote gate (open_gate ∷ [])) f)) (two-whole plan (gate + 1) bytes file halves.0)

-- a call that comes later does not fail now
later : (call : ℕ) → 1 ≤ call → (fails (After call) ≡ false) × (next (After call) ≡ After (call - 1))
later call le =
    let a : eqb call 0 ≡ false = ne_eqb call 0 (λ e. absurd (omega (arith, le, e))) in
    (a, ap (λ (b : Bool). if b then Never else After (call - 1)) a)

append-late : (call : ℕ) → 5 ≤ call → fails_in_append (After (call - 1)) ≡ false
append-late call le = fails_by_call (call - 1) ∙ le-ltb (call - 1) 4 (omega (arith, le))

turned-late : (call slot gate : ℕ) (items : List Record) (file : File) → 5 ≤ call → turned (AfterWrite call) slot gate items file ≡
    synced (with_change (wrote (slot_at slot) (open_gate ∷ [])) (synced
    (with_change (wrote (slot_at slot + 1) (offset_bytes (gate + 1))) (with_change (wrote (gate + 1) (area_bytes items)) file))))
turned-late call slot gate items file le =
    let p = later call (omega (arith, le)) in
    let grown = with_change (wrote (gate + 1) (area_bytes items)) file in
    let none = with_change (tried (gate + 1) (area_bytes items)) file in
    ap (λ (b : Bool). if b then none else appended (next (After call)) (slot_at slot) (offset_bytes (gate + 1)) grown) p.0
    ∙ ap (λ (plan : FailurePlan). appended plan (slot_at slot) (offset_bytes (gate + 1)) grown) p.1
    ∙ append-whole (After (call - 1)) (slot_at slot) (offset_bytes (gate + 1)) grown (append-late call le)

-- which calls are its own
fails-by-call : (call : ℕ) → fails_in_turnover (AfterWrite call) ≡ nat_lt call 5
fails-by-call zero = refl
fails-by-call (suc zero) = refl
fails-by-call (suc (suc zero)) = refl
fails-by-call (suc (suc (suc zero))) = refl
fails-by-call (suc (suc (suc (suc zero)))) = refl
fails-by-call (suc (suc (suc (suc (suc more))))) = late (suc (suc (suc (suc (suc more))))) (omega arith)
  where
    late : (call : ℕ) → 5 ≤ call → fails_in_turnover (AfterWrite call) ≡ nat_lt call 5
    late call le =
        let p = later call (omega (arith, le)) in
        ap (λ (b : Bool). b || fails_in_append (next (After call))) p.0
        ∙ ap (λ (plan : FailurePlan). fails_in_append plan) p.1
        ∙ append-late call le
        ∙ sym (le-ltb call 5 le)

-- ---- each call

-- a file whose last sync left this
abbrev kept : List ℕ → File
kept durable = record { durable = durable; changes = [] }

abbrev Told : Type 0
Told = Result (List Placed × ℕ) Fault × Beginning

module _ (durable : List ℕ) (es : List Placed) (gate slot : ℕ) (items : List Record) (may : MayTurn (surface (kept durable)) es gate slot items) where
  abbrev start : File
  start = kept durable

  abbrev area : List ℕ
  area = area_bytes items

  abbrev offset : List ℕ
  offset = offset_bytes (gate + 1)

  abbrev before : Told
  before = (Ok (es, gate), begins_in durable)

  abbrev after : Told
  after = (Ok (placed_from (gate + 1) items), record { at = gate + 1; slots = slot + 1 })

  eight : length offset ≡ 8
  eight = wide64.len (gate + 1)

  -- ---- the file behind its first calls

  abbrev grown : File
  grown = with_change (wrote (gate + 1) area) start

  abbrev both : File
  both = with_change (wrote (slot_at slot + 1) offset) grown

  grown-surface : surface grown ≡ with_area gate items (surface start)
  grown-surface = wrote_surface (gate + 1) area start (omega (arith, (log_parts durable es gate may.found).ends))

  long : slot_at slot + 9 ≤ length (surface grown).seen
  long = omega (arith, ap (λ (f : Surface). length f.seen) grown-surface, grown-long (surface start) es gate slot items may)

  both-surface : surface both ≡ with_offset slot gate items (surface start)
  both-surface = wrote_surface (slot_at slot + 1) offset grown (omega (arith, long)) ∙ ap (after_write (slot_at slot + 1) offset) grown-surface

  abbrev whole : List ℕ
  whole = staged (surface start) es gate slot items may

  both-seen : (surface both).seen ≡ whole
  both-seen = ap (λ (f : Surface). f.seen) both-surface

  room : slot_at slot ≤ length (surface both).seen
  room = omega (arith, ap (λ (l : List ℕ). length l) both-seen, (staged-size (surface start) es gate slot items may).1)

  -- ---- the slot's gate

  laid-byte : (byte : ℕ) → told (laid (slot_at slot) (byte ∷ []) (surface both).seen) ≡ (if eqb byte open_gate then after else before)
  laid-byte byte =
      ap told (laid_is (slot_at slot) (byte ∷ []) (surface both).seen room ∙ ap (λ (l : List ℕ). with_bytes (slot_at slot) (byte ∷ []) l) both-seen)
      ∙ with-byte (surface start) es gate slot items may byte

  old-log : told (surface both).seen ≡ before
  old-log = ap told both-seen ∙ tells _ _ whole (is-staged (surface start) es gate slot items may)

  new-log : told (laid (slot_at slot) (open_gate ∷ []) (surface both).seen) ≡ after
  new-log = laid-byte open_gate

  abbrev is_gate : FileChange → Type 0
  is_gate change = (change ≡ wrote (slot_at slot) (open_gate ∷ [])) ⊎ (change ≡ tried (slot_at slot) (open_gate ∷ []))

  by-fate : (fate : Fate) (change : FileChange) → is_gate change
      → told (by_fate fate change (surface both).seen) ≡ (if opens_gate fate then after else before)
  by-fate Old change is = old-log
  by-fate New change (inl is) = ap (λ (c : FileChange). told (by_fate New c (surface both).seen)) is ∙ new-log
  by-fate New change (inr is) = ap (λ (c : FileChange). told (by_fate New c (surface both).seen)) is ∙ new-log
  by-fate (Filled byte) change (inl is) = ap (λ (c : FileChange). told (by_fate (Filled byte) c (surface both).seen)) is ∙ laid-byte byte
  by-fate (Filled byte) change (inr is) = ap (λ (c : FileChange). told (by_fate (Filled byte) c (surface both).seen)) is ∙ laid-byte byte

  -- ---- what each call leaves where it fails

  abbrev Left : ℕ → File → Type 0
  Left call file = IsArmedTurn call before.0 after.0 before.1 after.1 file

  parted : (image : List ℕ) (b : Bool) → told image ≡ (if b then after else before)
      → (scan image ≡ (if b then after.0 else before.0)) × (begins_in image ≡ (if b then after.1 else before.1))
  parted image true is = (ap (λ (t : Told). t.0) is, ap (λ (t : Told). t.1) is)
  parted image false is = (ap (λ (t : Told). t.0) is, ap (λ (t : Told). t.1) is)

  as-told : (call : ℕ) (file : File) → told (surface file).seen ≡ (if is_read_turn call then after else before)
      → ((fates : List Fate) → told (crash_leaves fates file) ≡ (if is_left_turn call (get_or fates 0 Old) then after else before)) → Left call file
  as-told call file read left = record {
    read = (parted (surface file).seen (is_read_turn call) read).0;
    left = λ fates. (parted (crash_leaves fates file) (is_left_turn call (get_or fates 0 Old)) (left fates)).0;
    read_begins = (parted (surface file).seen (is_read_turn call) read).1;
    left_begins = λ fates. (parted (crash_leaves fates file) (is_left_turn call (get_or fates 0 Old)) (left fates)).1;
  }

  abbrev IsOld : List ℕ → Type 0
  IsOld = IsLogFrom (begins_in durable) (es, gate)

  each-old : (file : File) → ((image : List ℕ) → MayLeave (surface file) image → IsOld image)
      → (told (surface file).seen ≡ before) × ((fates : List Fate) → told (crash_leaves fates file) ≡ before)
  each-old file old = (
    tells _ _ (surface file).seen (old (surface file).seen (seen_may file)),
    λ fates. tells _ _ (crash_leaves fates file) (old (crash_leaves fates file) (crashed_may fates file)),
  )

  turns : IsTurnover (surface start) es gate slot items
  turns = is-turnover (surface start) es gate slot items may

  call-0 : Left 0 (with_change (tried (gate + 1) area) start)
  call-0 =
      let p = each-old (with_change (tried (gate + 1) area) start) turns.call_0 in
      as-told 0 (with_change (tried (gate + 1) area) start) p.0 p.1

  call-1 : Left 1 (with_change (tried (slot_at slot + 1) offset) grown)
  call-1 =
      let is : surface (with_change (tried (slot_at slot + 1) offset) grown) ≡ tried_write (slot_at slot + 1) 8 (with_area gate items (surface start)) =
      ap (λ (f : Surface). tried_write (slot_at slot + 1) (length offset) f) grown-surface
      ∙ ap (λ (n : ℕ). tried_write (slot_at slot + 1) n (with_area gate items (surface start))) eight in
      let p =
      each-old (with_change (tried (slot_at slot + 1) offset) grown) (λ image left. turns.call_1 image (subst (λ (f : Surface). MayLeave f image) is left)) in
      as-told 1 (with_change (tried (slot_at slot + 1) offset) grown) p.0 p.1

  call-2 : Left 2 both
  call-2 =
      let p = each-old both (λ image left. turns.call_2 image (subst (λ (f : Surface). MayLeave f image) both-surface left)) in
      as-told 2 both p.0 p.1

  call-3 : Left 3 (with_change (tried (slot_at slot) (open_gate ∷ [])) (synced both))
  call-3 =
      as-told 3 (with_change (tried (slot_at slot) (open_gate ∷ [])) (synced both)) old-log
      (λ fates. by-fate (get_or fates 0 Old) (tried (slot_at slot) (open_gate ∷ [])) (inr refl))

  call-4 : Left 4 (with_change (wrote (slot_at slot) (open_gate ∷ [])) (synced both))
  call-4 =
      as-told 4 (with_change (wrote (slot_at slot) (open_gate ∷ [])) (synced both)) new-log
      (λ fates. by-fate (get_or fates 0 Old) (wrote (slot_at slot) (open_gate ∷ [])) (inl refl))

  none-fails : (call : ℕ) → 5 ≤ call → Left call (synced (with_change (wrote (slot_at slot) (open_gate ∷ [])) (synced both)))
  none-fails call le =
      let read : is_read_turn call ≡ true = le-leb 4 call (omega (arith, le)) in
      let two : nat_le call 2 ≡ false = lt-leb call 2 (omega (arith, le)) in
      let four : nat_le call 4 ≡ false = lt-leb call 4 (omega (arith, le)) in
      as-told call (synced (with_change (wrote (slot_at slot) (open_gate ∷ [])) (synced both))) (new-log ∙ sym (rw read refl))
      (λ fates. new-log ∙ sym (rw (two, four) refl))

  from-start : (call : ℕ) → Left call (turned (AfterWrite call) slot gate items start)
  from-start zero = call-0
  from-start (suc zero) = call-1
  from-start (suc (suc zero)) = call-2
  from-start (suc (suc (suc zero))) = call-3
  from-start (suc (suc (suc (suc zero)))) = call-4
  from-start (suc (suc (suc (suc (suc more))))) =
      let call = suc (suc (suc (suc (suc more)))) in
      subst (λ (f : File). Left call f) (sym (turned-late call slot gate items start (omega arith))) (none-fails call (omega arith))

pub failing-calls : (file : File) (es : List Placed) (gate slot : ℕ) (items : List Record) → MayTurn (surface file) es gate slot items → (call : ℕ) →
    (fails_in_turnover (AfterWrite call) ≡ nat_lt call 5)
    × IsArmedTurn call (Ok (es, gate)) (Ok (placed_from (gate + 1) items)) (begins_in (surface file).seen) (record { at = gate + 1; slots = slot + 1 })
    (turned (AfterWrite call) slot gate items file)
failing-calls file es gate slot items may call = (fails-by-call call, from_changes file.changes may.synced.synced may)
  where
    from_changes : (changes : List FileChange) → none_of changes ≡ true
        → MayTurn (surface (record { durable = file.durable; changes = changes })) es gate slot items
        → IsArmedTurn call (Ok (es, gate)) (Ok (placed_from (gate + 1) items))
        (begins_in (surface (record { durable = file.durable; changes = changes })).seen) (record { at = gate + 1; slots = slot + 1 })
        (turned (AfterWrite call) slot gate items (record { durable = file.durable; changes = changes }))
    from_changes [] none may = from-start file.durable es gate slot items may call
    from_changes (change ∷ changes) none may = absurd (false≢true none)
