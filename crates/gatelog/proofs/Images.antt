-- What a crash may leave of the file in each step of an append.
use Rattle.std.proofs.Common.{◌≡◌, ◌≢◌, ◌⊎◌, inl, inr, ℕ, ◌+◌, ◌<◌, ◌≤◌, List, [], ◌∷◌, ◌++◌, length, get_or, take, drop, Some, Ok, Err, refl, sym, subst}
use Rattle.std.proofs.Common.{ap, ◌∙◌, append_assoc, arith}
use Rattle.std.specs.Prelude.{IsTrue}
use Rattle.std.specs.Int.{w32, to_be_bytes}
use Rattle.std.proofs.lemmas.Bool.{cases_eq, eqb-true, eq-eqb, false≢true}
use Rattle.std.proofs.lemmas.List.{take_at, drop_at, length-append, length-take-le, length-drop, take-take, take-append-le, take-append-drop}
use Rattle.std.proofs.lemmas.List.{get_or-take, get_or-drop, drop_more, append-nil, get_or_append_left}
use Rattle.std.proofs.Math.Seq.{get_or-append_seam}
use Rattle.record.specs.declared.record.Record.{Record}
use Rattle.spelling.specs.Grammar.{spelling}
use Rattle.spelling.specs.Limits.{IsRecord}
use Rattle.spelling.proofs.Again.{wide32, spelling-least, spelling-most}
use Rattle.disk.specs.Image.{Surface, MayLeave, IsUntouched, IsSynced, with_bytes, tried_write, after_write, after_sync}
use Rattle.disk.proofs.Runs.{get_or-with_bytes}
use Rattle.frames.specs.Placed.{Placed}
use Rattle.gatelog.specs.Frames.{behind_gate, staged_bytes, next_gate}
use Rattle.frames.specs.Gate.{open_gate}
use Rattle.frames.specs.Entries.{framed, with_entry, entries_at}
use Rattle.gatelog.specs.Log.{scan, entries_of, log, ends_with, ends_at, and_entry}
use Rattle.gatelog.specs.Crash.{IsOldOrWith}
use Rattle.gatelog.specs.Slots.{begins_in}
use Rattle.frames.proofs.Scan.{Found, with_entries, open_step, closed_step, frame_from, skips}
use Rattle.frames.proofs.Bytes.{take_agrees}
use Rattle.gatelog.proofs.Areas.{frame_again}
use Rattle.gatelog.proofs.Goes.{gate_within, gate_closed, scan_goes_on, begins-stays}

-- ---- the gate

pub ends_found : (found : Found) (gate : ℕ) → IsTrue (ends_with found gate) → (es : List Placed) × (found ≡ Ok (es, gate))
ends_found (Ok found) gate h = (found.0, ap (λ (n : ℕ). Ok (found.0, n)) (eqb-true found.1 gate h))
ends_found (Err fault) gate h = absurd (false≢true h)

module _ (image other : List ℕ) (es : List Placed) (gate : ℕ) (h : scan image ≡ Ok (es, gate)) (front : take gate other ≡ take gate image) where
  -- with the gate closed it has the same log
  pub stays_closed : gate < length other → get_or other gate 0 ≢ open_gate → scan other ≡ Ok (es, gate)
  stays_closed long shut =
      scan_goes_on image other es gate h front (omega (arith, long))
      ∙ ap (λ (l : List ℕ). with_entries es (entries_at gate 0 l)) (drop_more other gate 0 long)
      ∙ ap (with_entries es) (closed_step gate (get_or other gate 0) (drop (gate + 1) other) shut)
      ∙ ap (λ (l : List Placed). Ok (l, gate)) (append-nil es)

  -- with the gate open before a staged record it has that too
  pub is_opened : (item : Record) (rest : List ℕ) → IsRecord item → drop gate other ≡ open_gate ∷ (staged_bytes item ++ rest) → gate < length other
      → scan other ≡ Ok (es ++ (record { offset = gate; item = item }) ∷ [], next_gate gate item)
  is_opened item rest fits behind long =
      let entry : Placed = record { offset = gate; item = item } in
      let count = length (spelling item) in
      let bytes = behind_gate item ++ (0 ∷ rest) in
      let grouped : staged_bytes item ++ rest ≡ bytes = append_assoc (behind_gate item) (0 ∷ []) rest in
      let frame : framed bytes ≡ Some (item, 4 + count) = frame_from bytes item count (frame_again item (0 ∷ rest) fits (spelling-least item)
      (spelling-most item fits)) in
      let size : length (behind_gate item) ≡ 4 + count = omega (arith, length-append (to_be_bytes w32 count) (spelling item), wide32.len count) in
      let end : (gate + 1) + (4 + count) ≡ next_gate gate item = omega arith in
      let not_open : 0 ≢ open_gate = λ (e : 0 ≡ open_gate). absurd (omega (arith, e)) in
      let past : entries_at (gate + 1) (4 + count) bytes ≡ Ok ([], next_gate gate item) =
      ap (λ (n : ℕ). entries_at (gate + 1) n bytes) (sym size) ∙ skips (behind_gate item) (0 ∷ rest) (gate + 1)
      ∙ ap (λ (n : ℕ). entries_at ((gate + 1) + n) 0 (0 ∷ rest)) size ∙ closed_step ((gate + 1) + (4 + count)) 0 rest not_open
      ∙ ap (λ (n : ℕ). Ok ([], n)) end in
      scan_goes_on image other es gate h front long
      ∙ ap (λ (l : List ℕ). with_entries es (entries_at gate 0 l)) (behind ∙ ap (λ (l : List ℕ). open_gate ∷ l) grouped)
      ∙ ap (with_entries es) (open_step gate open_gate bytes item (4 + count) refl frame ∙ ap (with_entry entry) past)

-- where the gate behind a staged record is
pub bytes-size : (gate : ℕ) (item : Record) → gate + length (staged_bytes item) ≡ next_gate gate item
bytes-size gate item =
    let count = length (spelling item) in
    omega (arith, length-append (behind_gate item) (0 ∷ []), length-append (to_be_bytes w32 count) (spelling item), wide32.len count)

-- ---- an append

module _ (file : Surface) (gate : ℕ) (item : Record) (synced : IsSynced file) (whole : IsTrue (ends_at file.seen gate)) (fits : IsRecord item) where
  abbrev entry : Placed
  entry = record { offset = gate; item = item }

  abbrev bytes : List ℕ
  bytes = staged_bytes item

  found : (es : List Placed) × (scan file.seen ≡ Ok (es, gate))
  found = ends_found (scan file.seen) gate whole

  within : (8 ≤ gate) × (gate < length file.seen)
  within = gate_within file.seen found.0 gate found.1

  same_log : (image : List ℕ) → scan image ≡ Ok (found.0, gate) → log image ≡ log file.seen
  same_log image h = ap entries_of (h ∙ sym found.1)

  more_log : (image : List ℕ) → scan image ≡ Ok (found.0 ++ entry ∷ [], next_gate gate item) → log image ≡ and_entry (log file.seen) entry
  more_log image h = ap entries_of h ∙ ap (λ (f : Found). and_entry (entries_of f) entry) (sym found.1)

  pub at_start : (image : List ℕ) → MayLeave file image → IsOldOrWith (log file.seen) entry image
  at_start image may = inl (ap log (may.unchanged synced.synced))

  -- behind the closed gate anything may stand
  pub log-staging : (image : List ℕ) → MayLeave (tried_write (gate + 1) (length bytes) file) image → log image ≡ log file.seen
  log-staging image may =
      let long : gate < length image = omega (arith, within.1, may.no_shorter, synced.whole) in
      let same : (i : ℕ) → i < gate + 1 → get_or image i 0 ≡ get_or file.seen i 0 = λ i lt. may.untouched i
      (omega (arith, lt, within.1, synced.whole)) (inl lt, subst (λ ranges. IsUntouched i ranges) (sym synced.none) tt) in
      let front : take gate image ≡ take gate file.seen = take_agrees image file.seen gate (omega (arith, long)) (omega (arith, within.1))
      (λ i lt. same i (omega (arith, lt))) in
      let shut : get_or image gate 0 ≢ open_gate = λ (e : get_or image gate 0 ≡ open_gate). gate_closed file.seen found.0 gate found.1
      (sym (same gate (omega arith)) ∙ e) in
      same_log image (stays_closed file.seen image found.0 gate found.1 front long shut)

  -- and the log begins where it began
  pub begins-staging : (image : List ℕ) → MayLeave (tried_write (gate + 1) (length bytes) file) image → begins_in image ≡ begins_in file.seen
  begins-staging image may =
      begins-stays file.seen image found.0 gate found.1 (λ i lt. may.untouched i
      (omega (arith, lt, within.1, synced.whole)) (inl (omega (arith, lt)), subst (λ ranges. IsUntouched i ranges) (sym synced.none) tt))
      (omega (arith, within.1, may.no_shorter, synced.whole))

  pub while_staging : (image : List ℕ) → MayLeave (tried_write (gate + 1) (length bytes) file) image → IsOldOrWith (log file.seen) entry image
  while_staging image may = inl (log-staging image may)

  -- the file with the record behind the closed gate
  abbrev staged : List ℕ
  staged = with_bytes (gate + 1) bytes file.seen

  abbrev tail : List ℕ
  tail = drop (gate + 1 + length bytes) file.seen

  staged_size : length (take (gate + 1) file.seen) ≡ gate + 1
  staged_size = length-take-le (gate + 1) file.seen (omega (arith, within.1))

  pub staged_is : staged ≡ take (gate + 1) file.seen ++ (bytes ++ tail)
  staged_is = append_assoc (take (gate + 1) file.seen) bytes tail

  staged_front : take gate staged ≡ take gate file.seen
  staged_front =
      ap (λ (l : List ℕ). take gate l) staged_is
      ∙ take-append-le gate (take (gate + 1) file.seen) (bytes ++ tail) (omega (arith, staged_size))
      ∙ take-take gate (gate + 1) file.seen (omega arith)

  staged_behind : drop (gate + 1) staged ≡ bytes ++ tail
  staged_behind = ap (λ (l : List ℕ). drop (gate + 1) l) staged_is ∙ drop_at (take (gate + 1) file.seen) (bytes ++ tail) (gate + 1) staged_size

  pub staged_long : gate + 1 + length bytes ≤ length staged
  staged_long = omega (arith, ap length staged_is, staged_size, length-append (take (gate + 1) file.seen) (bytes ++ tail), length-append bytes tail)

  -- whatever the gate is, the record behind it is whole
  gate_any : (image : List ℕ) → take gate image ≡ take gate staged → take (length bytes) (drop (gate + 1) image) ≡ bytes → gate < length image →
      IsOldOrWith (log file.seen) entry image
  gate_any image front_is behind long =
      let front : take gate image ≡ take gate file.seen = front_is ∙ staged_front in
      let rest = drop (length bytes) (drop (gate + 1) image) in
      let parts : drop (gate + 1) image ≡ bytes ++ rest = sym (take-append-drop (length bytes) (drop (gate + 1) image))
      ∙ ap (λ (l : List ℕ). l ++ rest) behind in
      let all : drop gate image ≡ get_or image gate 0 ∷ (bytes ++ rest) = drop_more image gate 0 long ∙ ap (λ (l : List ℕ). get_or image gate 0 ∷ l) parts in
      elim (cases_eq (get_or image gate 0) open_gate) [
        | inl opened ↦ inr (more_log image (is_opened file.seen image found.0 gate found.1 front item rest fits
            (all ∙ ap (λ (g : ℕ). g ∷ (bytes ++ rest)) opened) (omega (arith, long))))
        | inr shut ↦ inl (same_log image (stays_closed file.seen image found.0 gate found.1 front long shut))
      ]

  pub while_opening : (image : List ℕ) → MayLeave (tried_write gate 1 (after_sync (after_write (gate + 1) bytes file))) image →
      IsOldOrWith (log file.seen) entry image
  while_opening image may =
      let long : length staged ≤ length image = may.no_shorter in
      let front : take gate image ≡ take gate staged = take_agrees image staged gate (omega (arith, long, staged_long)) (omega (arith, staged_long))
      (λ i lt. may.untouched i (omega (arith, lt, staged_long)) (inl lt, tt)) in
      let behind : take (length bytes) (drop (gate + 1) image) ≡ take (length bytes) (drop (gate + 1) staged) =
      take_agrees (drop (gate + 1) image) (drop (gate + 1) staged) (length bytes) (omega (arith, long, staged_long, length-drop (gate + 1) image))
      (omega (arith, staged_long, length-drop (gate + 1) staged)) (λ i lt.
      get_or-drop (gate + 1) image i 0 ∙ may.untouched (gate + 1 + i) (omega (arith, lt, staged_long)) (inr (omega arith), tt)
      ∙ sym (get_or-drop (gate + 1) staged i 0)) in
      gate_any image front (behind ∙ ap (λ (l : List ℕ). take (length bytes) l) staged_behind ∙ take_at bytes tail (length bytes) refl)
      (omega (arith, long, staged_long))

  pub begins-opening : (image : List ℕ) → MayLeave (tried_write gate 1 (after_sync (after_write (gate + 1) bytes file))) image →
      begins_in image ≡ begins_in file.seen
  begins-opening image may =
      begins-stays file.seen image found.0 gate found.1 (λ i lt.
      may.untouched i (omega (arith, lt, staged_long)) (inl lt, tt)
      ∙ get_or-with_bytes (gate + 1) bytes file.seen i (omega (arith, within.1)) (inl (omega (arith, lt))))
      (omega (arith, may.no_shorter, staged_long))

  -- the file with the gate open
  abbrev opened : List ℕ
  opened = with_bytes gate (open_gate ∷ []) staged

  opened_is : opened ≡ take gate staged ++ (open_gate ∷ (bytes ++ tail))
  opened_is =
      append_assoc (take gate staged) (open_gate ∷ []) (drop (gate + 1) staged)
      ∙ ap (λ (l : List ℕ). take gate staged ++ (open_gate ∷ l)) staged_behind

  front_size : length (take gate staged) ≡ gate
  front_size = length-take-le gate staged (omega (arith, staged_long))

  scan-opened : scan opened ≡ Ok (found.0 ++ entry ∷ [], next_gate gate item)
  scan-opened =
      let front : take gate opened ≡ take gate file.seen = ap (λ (l : List ℕ). take gate l) opened_is
      ∙ take_at (take gate staged) (open_gate ∷ (bytes ++ tail)) gate front_size ∙ staged_front in
      let behind : drop gate opened ≡ open_gate ∷ (bytes ++ tail) = ap (λ (l : List ℕ). drop gate l) opened_is
      ∙ drop_at (take gate staged) (open_gate ∷ (bytes ++ tail)) gate front_size in
      is_opened file.seen opened found.0 gate found.1 front item tail fits behind
      (omega (arith, ap length opened_is, front_size, length-append (take gate staged) (open_gate ∷ (bytes ++ tail))))

  pub log-opened : log opened ≡ and_entry (log file.seen) entry
  log-opened = more_log opened scan-opened

  pub ends-opened : IsTrue (ends_at opened (next_gate gate item))
  ends-opened = ap (λ (f : Found). ends_with f (next_gate gate item)) scan-opened ∙ eq-eqb (next_gate gate item) (next_gate gate item) refl

  shut_there : get_or file.seen gate 0 ≢ open_gate
  shut_there = gate_closed file.seen found.0 gate found.1

  -- with the gate still closed it has the old log
  pub log-staged : log staged ≡ log file.seen
  log-staged =
      let gate-is : get_or staged gate 0 ≡ get_or file.seen gate 0 =
      ap (λ (l : List ℕ). get_or l gate 0) staged_is ∙ get_or_append_left (take (gate + 1) file.seen) (bytes ++ tail) 0 gate
      (omega (arith, staged_size)) ∙ get_or-take (gate + 1) file.seen gate 0 (omega arith) in
      same_log staged (stays_closed file.seen staged found.0 gate found.1 staged_front (omega (arith, staged_long))
      (λ (e : get_or staged gate 0 ≡ open_gate). shut_there (sym gate-is ∙ e)))

  -- with any other byte at the gate too
  pub log-shut : (byte : ℕ) → byte ≢ open_gate → log (with_bytes gate (byte ∷ []) staged) ≡ log file.seen
  log-shut byte other =
      let image = with_bytes gate (byte ∷ []) staged in
      let rest = drop (gate + 1) staged in
      let image-is : image ≡ take gate staged ++ (byte ∷ rest) = append_assoc (take gate staged) (byte ∷ []) rest in
      let front : take gate image ≡ take gate file.seen = ap (λ (l : List ℕ). take gate l) image-is
      ∙ take_at (take gate staged) (byte ∷ rest) gate front_size ∙ staged_front in
      let gate-is : get_or image gate 0 ≡ byte = ap (λ (l : List ℕ). get_or l gate 0) image-is
      ∙ ap (λ (n : ℕ). get_or (take gate staged ++ (byte ∷ rest)) n 0) (sym front_size) ∙ get_or-append_seam (take gate staged) byte rest 0 in
      same_log image (stays_closed file.seen image found.0 gate found.1 front
      (omega (arith, ap length image-is, front_size, length-append (take gate staged) (byte ∷ rest)))
      (λ (e : get_or image gate 0 ≡ open_gate). other (sym gate-is ∙ e)))

-- ---- the two halves of an append, by the bytes that it writes

module _ (file : Surface) (gate : ℕ) (item : Record) (synced : IsSynced file) (whole : IsTrue (ends_at file.seen gate)) (fits : IsRecord item)
    (bytes : List ℕ) (bytes-is : bytes ≡ staged_bytes item) where
  abbrev Half : List ℕ → Type 0
  Half image =
      MayLeave (tried_write (gate + 1) (length bytes) file) image
      ⊎ MayLeave (tried_write gate 1 (after_sync (after_write (gate + 1) bytes file))) image

  staging : (image : List ℕ) → MayLeave (tried_write (gate + 1) (length bytes) file) image →
      MayLeave (tried_write (gate + 1) (length (staged_bytes item)) file) image
  staging image may = subst (λ (l : List ℕ). MayLeave (tried_write (gate + 1) (length l) file) image) bytes-is may

  opening : (image : List ℕ) → MayLeave (tried_write gate 1 (after_sync (after_write (gate + 1) bytes file))) image →
      MayLeave (tried_write gate 1 (after_sync (after_write (gate + 1) (staged_bytes item) file))) image
  opening image may = subst (λ (l : List ℕ). MayLeave (tried_write gate 1 (after_sync (after_write (gate + 1) l file))) image) bytes-is may

  pub old-or-with : (image : List ℕ) → Half image → IsOldOrWith (log file.seen) (record { offset = gate; item = item }) image
  old-or-with image (inl may) = while_staging file gate item synced whole fits image (staging image may)
  old-or-with image (inr may) = while_opening file gate item synced whole fits image (opening image may)

  pub begins-on : (image : List ℕ) → Half image → begins_in image ≡ begins_in file.seen
  begins-on image (inl may) = begins-staging file gate item synced whole fits image (staging image may)
  begins-on image (inr may) = begins-opening file gate item synced whole fits image (opening image may)
