-- What a crash may leave of the file in each step of an append of several records.
use Rattle.std.proofs.Common.{◌≡◌, ◌≢◌, ◌⊎◌, inl, inr, ℕ, suc, ◌+◌, ◌<◌, ◌≤◌, List, [], ◌∷◌, ◌++◌, length, get_or, set, take, drop, Result, Ok, Err, refl, sym, subst}
use Rattle.std.proofs.Common.{ap, ◌∙◌, append_assoc, append-nil, flat_map, arith}
use Rattle.std.specs.Prelude.{IsTrue}
use Rattle.std.specs.List.{AllByRecursion}
use Rattle.std.proofs.lemmas.Bool.{cases_eq, eq-eqb}
use Rattle.std.proofs.lemmas.List.{take_at, drop_at, length-append, length-take-le, length-drop, take-take, take-append-le, take-append-drop}
use Rattle.std.proofs.lemmas.List.{get_or-drop, drop_more}
use Rattle.std.proofs.Math.Seq.{set-append_seam}
use Rattle.units.specs.declared.fault.Fault.{Fault}
use Rattle.record.specs.declared.record.Record.{Record}
use Rattle.spelling.specs.Limits.{IsRecord}
use Rattle.disk.specs.Image.{Surface, MayLeave, IsUntouched, IsSynced, with_bytes, tried_write, after_write, after_sync}
use Rattle.disk.proofs.Runs.{get_or-with_bytes}
use Rattle.frames.specs.Placed.{Placed}
use Rattle.frames.specs.Gate.{open_gate}
use Rattle.frames.specs.Entries.{entries_at}
use Rattle.frames.proofs.Scan.{Found, with_entries}
use Rattle.frames.proofs.Bytes.{take_agrees}
use Rattle.gatelog.specs.Frames.{behind_gate, end_from, next_gate, staged_bytes}
use Rattle.gatelog.specs.Areas.{whole_frame, area_bytes, placed_from}
use Rattle.gatelog.specs.Groups.{Group, group_bytes, joined, and_entries, IsOldOrWithAll, opened_before}
use Rattle.gatelog.specs.Log.{scan, entries_of, log, ends_with, ends_at}
use Rattle.gatelog.specs.Slots.{begins_in}
use Rattle.gatelog.proofs.Areas.{area-scanned}
use Rattle.gatelog.proofs.Fresh.{area-size, placed-end}
use Rattle.gatelog.proofs.Goes.{gate_within, gate_closed, scan_goes_on, begins-stays}
use Rattle.gatelog.proofs.Images.{ends_found, stays_closed}

-- ---- the bytes of a group

-- behind an open gate they are an area
pub is-area : (r : Record) (rs : List Record) → open_gate ∷ group_bytes (r ∷ rs) ≡ area_bytes (r ∷ rs)
is-area r rs = sym (append_assoc (whole_frame r) (flat_map whole_frame rs) (0 ∷ []))

-- where the gate behind them is
pub group-size : (gate : ℕ) (r : Record) (rs : List Record) → gate + length (group_bytes (r ∷ rs)) ≡ end_from gate (r ∷ rs)
group-size gate r rs = omega (arith, area-size (r ∷ rs) gate, ap length (is-area r rs))

pub group-end : (gate : ℕ) (items : List Record) → gate + length (group_bytes items) ≡ end_from gate items
group-end gate [] = omega arith
group-end gate (r ∷ rs) = group-size gate r rs

-- with the gate open before them they are in the log
pub are-opened : (image other : List ℕ) (es : List Placed) (gate : ℕ) → scan image ≡ Ok (es, gate) → take gate other ≡ take gate image →
    (r : Record) (rs : List Record) (rest : List ℕ) → AllByRecursion IsRecord (r ∷ rs)
    → drop gate other ≡ open_gate ∷ (group_bytes (r ∷ rs) ++ rest) → gate < length other
    → scan other ≡ Ok (es ++ (placed_from gate (r ∷ rs)).0, (placed_from gate (r ∷ rs)).1)
are-opened image other es gate h front r rs rest fit behind long =
    scan_goes_on image other es gate h front long
    ∙ ap (λ (l : List ℕ). with_entries es (entries_at gate 0 l)) (behind ∙ ap (λ (l : List ℕ). l ++ rest) (is-area r rs))
    ∙ ap (with_entries es) (area-scanned (r ∷ rs) gate rest fit)

-- ---- an append of a group

module _ (file : Surface) (gate : ℕ) (r : Record) (rs : List Record) (synced : IsSynced file) (whole : IsTrue (ends_at file.seen gate))
    (fit : AllByRecursion IsRecord (r ∷ rs)) where
  abbrev entries : List Placed
  entries = (placed_from gate (r ∷ rs)).0

  abbrev end : ℕ
  end = (placed_from gate (r ∷ rs)).1

  abbrev bytes : List ℕ
  bytes = group_bytes (r ∷ rs)

  found : (es : List Placed) × (scan file.seen ≡ Ok (es, gate))
  found = ends_found (scan file.seen) gate whole

  within : (8 ≤ gate) × (gate < length file.seen)
  within = gate_within file.seen found.0 gate found.1

  same_log : (image : List ℕ) → scan image ≡ Ok (found.0, gate) → log image ≡ log file.seen
  same_log image h = ap entries_of (h ∙ sym found.1)

  more_log : (image : List ℕ) → scan image ≡ Ok (found.0 ++ entries, end) → log image ≡ and_entries (log file.seen) entries
  more_log image h = ap entries_of h ∙ ap (λ (f : Found). and_entries (entries_of f) entries) (sym found.1)

  pub at_start : (image : List ℕ) → MayLeave file image → IsOldOrWithAll (log file.seen) entries image
  at_start image may = inl (ap log (may.unchanged synced.synced))

  -- behind the closed gate anything may stand
  pub log-staging : (image : List ℕ) → MayLeave (tried_write (gate + 1) (length bytes) file) image → log image ≡ log file.seen
  log-staging image may =
      let long : gate < length image = omega (arith, within.1, may.no_shorter, synced.whole) in
      let same : (i : ℕ) → i < gate + 1 → get_or image i 0 ≡ get_or file.seen i 0 = λ i lt. may.untouched i
      (omega (arith, lt, within.1, synced.whole)) (inl lt, subst (λ ranges. IsUntouched i ranges) (sym synced.none) tt) in
      let front : take gate image ≡ take gate file.seen = take_agrees image file.seen gate (omega (arith, long)) (omega (arith, within.1))
      (λ i lt. same i (omega (arith, lt))) in
      let shut : get_or image gate 0 ≢ open_gate = λ (e : get_or image gate 0 ≡ open_gate). gate_closed file.seen found.0 gate found.1
      (sym (same gate (omega arith)) ∙ e) in
      same_log image (stays_closed file.seen image found.0 gate found.1 front long shut)

  -- and the log begins where it began
  pub begins-staging : (image : List ℕ) → MayLeave (tried_write (gate + 1) (length bytes) file) image → begins_in image ≡ begins_in file.seen
  begins-staging image may =
      begins-stays file.seen image found.0 gate found.1 (λ i lt. may.untouched i
      (omega (arith, lt, within.1, synced.whole)) (inl (omega (arith, lt)), subst (λ ranges. IsUntouched i ranges) (sym synced.none) tt))
      (omega (arith, within.1, may.no_shorter, synced.whole))

  pub while_staging : (image : List ℕ) → MayLeave (tried_write (gate + 1) (length bytes) file) image → IsOldOrWithAll (log file.seen) entries image
  while_staging image may = inl (log-staging image may)

  -- the file with the record behind the closed gate
  abbrev staged : List ℕ
  staged = with_bytes (gate + 1) bytes file.seen

  abbrev tail : List ℕ
  tail = drop (gate + 1 + length bytes) file.seen

  staged_size : length (take (gate + 1) file.seen) ≡ gate + 1
  staged_size = length-take-le (gate + 1) file.seen (omega (arith, within.1))

  pub staged_is : staged ≡ take (gate + 1) file.seen ++ (bytes ++ tail)
  staged_is = append_assoc (take (gate + 1) file.seen) bytes tail

  staged_front : take gate staged ≡ take gate file.seen
  staged_front =
      ap (λ (l : List ℕ). take gate l) staged_is
      ∙ take-append-le gate (take (gate + 1) file.seen) (bytes ++ tail) (omega (arith, staged_size))
      ∙ take-take gate (gate + 1) file.seen (omega arith)

  staged_behind : drop (gate + 1) staged ≡ bytes ++ tail
  staged_behind = ap (λ (l : List ℕ). drop (gate + 1) l) staged_is ∙ drop_at (take (gate + 1) file.seen) (bytes ++ tail) (gate + 1) staged_size

  pub staged_long : gate + 1 + length bytes ≤ length staged
  staged_long = omega (arith, ap length staged_is, staged_size, length-append (take (gate + 1) file.seen) (bytes ++ tail), length-append bytes tail)

  -- whatever the gate is, the record behind it is whole
  gate_any : (image : List ℕ) → take gate image ≡ take gate staged → take (length bytes) (drop (gate + 1) image) ≡ bytes → gate < length image →
      IsOldOrWithAll (log file.seen) entries image
  gate_any image front_is behind long =
      let front : take gate image ≡ take gate file.seen = front_is ∙ staged_front in
      let rest = drop (length bytes) (drop (gate + 1) image) in
      let parts : drop (gate + 1) image ≡ bytes ++ rest = sym (take-append-drop (length bytes) (drop (gate + 1) image))
      ∙ ap (λ (l : List ℕ). l ++ rest) behind in
      let all : drop gate image ≡ get_or image gate 0 ∷ (bytes ++ rest) = drop_more image gate 0 long ∙ ap (λ (l : List ℕ). get_or image gate 0 ∷ l) parts in
      elim (cases_eq (get_or image gate 0) open_gate) [
        | inl opened ↦ inr (more_log image (are-opened file.seen image found.0 gate found.1 front r rs rest fit
            (all ∙ ap (λ (g : ℕ). g ∷ (bytes ++ rest)) opened) (omega (arith, long))))
        | inr shut ↦ inl (same_log image (stays_closed file.seen image found.0 gate found.1 front long shut))
      ]

  pub while_opening : (image : List ℕ) → MayLeave (tried_write gate 1 (after_sync (after_write (gate + 1) bytes file))) image →
      IsOldOrWithAll (log file.seen) entries image
  while_opening image may =
      let long : length staged ≤ length image = may.no_shorter in
      let front : take gate image ≡ take gate staged = take_agrees image staged gate (omega (arith, long, staged_long)) (omega (arith, staged_long))
      (λ i lt. may.untouched i (omega (arith, lt, staged_long)) (inl lt, tt)) in
      let behind : take (length bytes) (drop (gate + 1) image) ≡ take (length bytes) (drop (gate + 1) staged) =
      take_agrees (drop (gate + 1) image) (drop (gate + 1) staged) (length bytes) (omega (arith, long, staged_long, length-drop (gate + 1) image))
      (omega (arith, staged_long, length-drop (gate + 1) staged)) (λ i lt.
      get_or-drop (gate + 1) image i 0 ∙ may.untouched (gate + 1 + i) (omega (arith, lt, staged_long)) (inr (omega arith), tt)
      ∙ sym (get_or-drop (gate + 1) staged i 0)) in
      gate_any image front (behind ∙ ap (λ (l : List ℕ). take (length bytes) l) staged_behind ∙ take_at bytes tail (length bytes) refl)
      (omega (arith, long, staged_long))

  pub begins-opening : (image : List ℕ) → MayLeave (tried_write gate 1 (after_sync (after_write (gate + 1) bytes file))) image →
      begins_in image ≡ begins_in file.seen
  begins-opening image may =
      begins-stays file.seen image found.0 gate found.1 (λ i lt.
      may.untouched i (omega (arith, lt, staged_long)) (inl lt, tt)
      ∙ get_or-with_bytes (gate + 1) bytes file.seen i (omega (arith, within.1)) (inl (omega (arith, lt))))
      (omega (arith, may.no_shorter, staged_long))

  -- the file with the gate open
  abbrev opened : List ℕ
  opened = with_bytes gate (open_gate ∷ []) staged

  opened_is : opened ≡ take gate staged ++ (open_gate ∷ (bytes ++ tail))
  opened_is =
      append_assoc (take gate staged) (open_gate ∷ []) (drop (gate + 1) staged)
      ∙ ap (λ (l : List ℕ). take gate staged ++ (open_gate ∷ l)) staged_behind

  front_size : length (take gate staged) ≡ gate
  front_size = length-take-le gate staged (omega (arith, staged_long))

  scan-opened : scan opened ≡ Ok (found.0 ++ entries, end)
  scan-opened =
      let front : take gate opened ≡ take gate file.seen = ap (λ (l : List ℕ). take gate l) opened_is
      ∙ take_at (take gate staged) (open_gate ∷ (bytes ++ tail)) gate front_size ∙ staged_front in
      let behind : drop gate opened ≡ open_gate ∷ (bytes ++ tail) = ap (λ (l : List ℕ). drop gate l) opened_is
      ∙ drop_at (take gate staged) (open_gate ∷ (bytes ++ tail)) gate front_size in
      are-opened file.seen opened found.0 gate found.1 front r rs tail fit behind
      (omega (arith, ap length opened_is, front_size, length-append (take gate staged) (open_gate ∷ (bytes ++ tail))))

  pub log-opened : log opened ≡ and_entries (log file.seen) entries
  log-opened = more_log opened scan-opened

  pub ends-opened : IsTrue (ends_at opened (end_from gate (r ∷ rs)))
  ends-opened = ap (λ (f : Found). ends_with f (end_from gate (r ∷ rs))) scan-opened ∙ eq-eqb end (end_from gate (r ∷ rs)) (placed-end (r ∷ rs) gate)

-- ---- its two halves, by the bytes that it writes, and where

abbrev pub Half : Surface → ℕ → List ℕ → List ℕ → Type 0
Half file at bytes image =
    MayLeave (tried_write (at + 1) (length bytes) file) image
    ⊎ MayLeave (tried_write at 1 (after_sync (after_write (at + 1) bytes file))) image

moved : (file : Surface) (at gate : ℕ) (bytes more image : List ℕ) → at ≡ gate → bytes ≡ more → Half file at bytes image → Half file gate more image
moved file at gate bytes more image at-is is half =
    subst (λ (l : List ℕ). Half file gate l image) is (subst (λ (n : ℕ). Half file n bytes image) at-is half)

old-or-with : (file : Surface) (gate : ℕ) (r : Record) (rs : List Record) → IsSynced file → IsTrue (ends_at file.seen gate)
    → AllByRecursion IsRecord (r ∷ rs) → (image : List ℕ) → Half file gate (group_bytes (r ∷ rs)) image
    → IsOldOrWithAll (log file.seen) (placed_from gate (r ∷ rs)).0 image
old-or-with file gate r rs synced whole fit image (inl may) = while_staging file gate r rs synced whole fit image may
old-or-with file gate r rs synced whole fit image (inr may) = while_opening file gate r rs synced whole fit image may

begins-on : (file : Surface) (gate : ℕ) (r : Record) (rs : List Record) → IsSynced file → IsTrue (ends_at file.seen gate)
    → AllByRecursion IsRecord (r ∷ rs) → (image : List ℕ) → Half file gate (group_bytes (r ∷ rs)) image → begins_in image ≡ begins_in file.seen
begins-on file gate r rs synced whole fit image (inl may) = begins-staging file gate r rs synced whole fit image may
begins-on file gate r rs synced whole fit image (inr may) = begins-opening file gate r rs synced whole fit image may

pub old-or-with-all : (file : Surface) (gate at : ℕ) (items : List Record) (bytes : List ℕ) → IsSynced file → IsTrue (ends_at file.seen gate)
    → AllByRecursion IsRecord items → 1 ≤ length items → at ≡ gate → bytes ≡ group_bytes items → (image : List ℕ) → Half file at bytes image
    → IsOldOrWithAll (log file.seen) (placed_from gate items).0 image
old-or-with-all file gate at [] bytes synced whole fit some at-is is image half = absurd (omega (arith, some))
old-or-with-all file gate at (r ∷ rs) bytes synced whole fit some at-is is image half =
    old-or-with file gate r rs synced whole fit image (moved file at gate bytes (group_bytes (r ∷ rs)) image at-is is half)

pub begins-with-all : (file : Surface) (gate at : ℕ) (items : List Record) (bytes : List ℕ) → IsSynced file → IsTrue (ends_at file.seen gate)
    → AllByRecursion IsRecord items → 1 ≤ length items → at ≡ gate → bytes ≡ group_bytes items → (image : List ℕ) → Half file at bytes image
    → begins_in image ≡ begins_in file.seen
begins-with-all file gate at [] bytes synced whole fit some at-is is image half = absurd (omega (arith, some))
begins-with-all file gate at (r ∷ rs) bytes synced whole fit some at-is is image half =
    begins-on file gate r rs synced whole fit image (moved file at gate bytes (group_bytes (r ∷ rs)) image at-is is half)

-- the file behind both halves
abbrev pub with_group : ℕ → List ℕ → List ℕ → List ℕ
with_group gate bytes seen = with_bytes gate (open_gate ∷ []) (with_bytes (gate + 1) bytes seen)

pub done-with-all : (file : Surface) (gate : ℕ) (items : List Record) → IsSynced file → IsTrue (ends_at file.seen gate)
    → AllByRecursion IsRecord items → 1 ≤ length items
    → IsTrue (ends_at (with_group gate (group_bytes items) file.seen) (end_from gate items))
    × (log (with_group gate (group_bytes items) file.seen) ≡ and_entries (log file.seen) (placed_from gate items).0)
done-with-all file gate [] synced whole fit some = absurd (omega (arith, some))
done-with-all file gate (r ∷ rs) synced whole fit some =
    (ends-opened file gate r rs synced whole fit, log-opened file gate r rs synced whole fit)

-- ---- one record more

area-more : (items : List Record) (r : Record) → area_bytes (items ++ r ∷ []) ≡ flat_map whole_frame items ++ (open_gate ∷ staged_bytes r)
area-more [] r = ap (λ (l : List ℕ). l ++ 0 ∷ []) (append-nil (whole_frame r))
area-more (q ∷ rs) r =
    append_assoc (whole_frame q) (flat_map whole_frame (rs ++ r ∷ [])) (0 ∷ [])
    ∙ ap (λ (l : List ℕ). whole_frame q ++ l) (area-more rs r)
    ∙ sym (append_assoc (whole_frame q) (flat_map whole_frame rs) (open_gate ∷ staged_bytes r))

pub grown : (items : List Record) (r : Record) → opened_before (length (group_bytes items)) (group_bytes items ++ staged_bytes r) ≡ group_bytes (items ++ r ∷ [])
grown [] r = refl
grown (q ∷ rs) r =
    let front = behind_gate q ++ flat_map whole_frame rs in
    let parts : group_bytes (q ∷ rs) ≡ front ++ 0 ∷ [] = sym (append_assoc (behind_gate q) (flat_map whole_frame rs) (0 ∷ [])) in
    let size : length (group_bytes (q ∷ rs)) ≡ suc (length front) = omega (arith, ap length parts, length-append front (0 ∷ [])) in
    let all : group_bytes (q ∷ rs) ++ staged_bytes r ≡ front ++ 0 ∷ staged_bytes r =
    ap (λ (l : List ℕ). l ++ staged_bytes r) parts ∙ append_assoc front (0 ∷ []) (staged_bytes r) in
    ap (λ (n : ℕ). opened_before n (group_bytes (q ∷ rs) ++ staged_bytes r)) size
    ∙ ap (λ (l : List ℕ). set l (length front) open_gate) all
    ∙ set-append_seam front 0 (staged_bytes r) open_gate
    ∙ append_assoc (behind_gate q) (flat_map whole_frame rs) (open_gate ∷ staged_bytes r)
    ∙ ap (λ (l : List ℕ). behind_gate q ++ l) (sym (area-more rs r))

pub all_more : (items : List Record) (r : Record) → AllByRecursion IsRecord items → IsRecord r → AllByRecursion IsRecord (items ++ r ∷ [])
all_more [] r all more = (more, tt)
all_more (q ∷ rs) r all more = (all.0, all_more rs r all.1 more)

pub end-more : (items : List Record) (r : Record) (at : ℕ) → end_from at (items ++ r ∷ []) ≡ next_gate (end_from at items) r
end-more [] r at = refl
end-more (q ∷ rs) r at = end-more rs r (next_gate at q)

-- none more
pub and-none : (entries : Result (List Placed) Fault) → and_entries entries [] ≡ entries
and-none (Ok es) = ap (λ (l : List Placed). Ok l) (append-nil es)
and-none (Err fault) = refl

pub none-of : (group : Group) → group.items ≡ [] → (joined group ≡ []) × (end_from group.gate group.items ≡ group.gate)
none-of group is = (ap (λ (l : List Record). (placed_from group.gate l).0) is, ap (λ (l : List Record). end_from group.gate l) is)
