-- What a scan finds in the front of a file, it finds again in each file with this front.
use Rattle.std.proofs.Common.{◌≡◌, ◌≢◌, inl, inr, ℕ, zero, suc, ◌+◌, ◌^◌, ◌<◌, ◌≤◌, ◌&&◌, Bool, true, false, cond, leb, eqb, List, [], ◌∷◌, ◌++◌}
use Rattle.std.proofs.Common.{length, take, drop, Option, Some, None, Result, Ok, Err, refl, sym, ap, ◌∙◌, add-zero, arith}
use Rattle.std.specs.Int.{w32, from_be_bytes}
use Rattle.std.proofs.lemmas.Bool.{cases_Bool, le-leb, leb-true, eqb-true, eq-eqb, ne_eqb, and_parts, true≢false}
use Rattle.std.proofs.lemmas.List.{length-take, length-drop, take-take, drop-take}
use Rattle.units.specs.declared.fault.Fault.{Fault}
use Rattle.units.specs.declared.fault.Fault.TheVariants.{Damaged}
use Rattle.spelling.specs.record.Record.{Record}
use Rattle.spelling.specs.Reading.{◌>>=◌, only_if, number_at, text_at, read_record}
use Rattle.frames.specs.Placed.{Placed}
use Rattle.frames.specs.Gate.{open_gate}
pub use Rattle.frames.specs.Entries.{with_entries}
use Rattle.frames.specs.Entries.{framed, frame_length, with_entry, with_frame, entries_at}

abbrev pub Found : Type 0
Found = Result (List Placed × ℕ) Fault

with_entries-cons : (e : Placed) (front : List Placed) (found : Found) → with_entry e (with_entries front found) ≡ with_entries (e ∷ front) found
with_entries-cons e front (Ok found) = refl
with_entries-cons e front (Err fault) = refl

pub with_entries-nil : (found : Found) → with_entries [] found ≡ found
with_entries-nil (Ok found) = refl
with_entries-nil (Err fault) = refl

ok_parts : (es fs : List Placed) (g h : ℕ) → ◌≡◌ {A = Found} (Ok (es, g)) (Ok (fs, h)) → (es ≡ fs) × (g ≡ h)
ok_parts es fs g h e =
    let both : ◌≡◌ {A = List Placed × ℕ} (es, g) (fs, h) = cc in
    (ap (λ (p : List Placed × ℕ). p.0) both, ap (λ (p : List Placed × ℕ). p.1) both)

-- what stands behind an entry
behind_entry : (e : Placed) (found : Found) (es : List Placed) (g : ℕ) → with_entry e found ≡ Ok (es, g) → (rest : List Placed)
    × (found ≡ Ok (rest, g)) × (es ≡ e ∷ rest)
behind_entry e (Ok found) es g h =
    let parts = ok_parts (e ∷ found.0) es found.1 g h in
    (found.0, ap (λ (k : ℕ). Ok (found.0, k)) parts.1, sym parts.0)
behind_entry e (Err fault) es g h = absurd cc

-- a gate is open and has a frame, or it is closed
pub data AtGate (at : ℕ) (bytes : List ℕ) (gate : ℕ) (es : List Placed) (end : ℕ) : Type 0 where
  is_open : (item : Record) (count : ℕ) (rest : List Placed) → gate ≡ open_gate → framed bytes ≡ Some (item, count) →
      entries_at (at + 1) count bytes ≡ Ok (rest, end) → es ≡ (record { offset = at; item = item }) ∷ rest → AtGate at bytes gate es end
  is_closed : gate ≢ open_gate → es ≡ [] → end ≡ at → AtGate at bytes gate es end

at_frame : (at : ℕ) (bytes : List ℕ) (gate : ℕ) (es : List Placed) (end : ℕ) (frame : Option (Record × ℕ)) → gate ≡ open_gate →
    framed bytes ≡ frame → with_frame at frame (entries_at (at + 1) (frame_length frame) bytes) ≡ Ok (es, end) → AtGate at bytes gate es end
at_frame at bytes gate es end (Some frame) opened is h =
    let more = behind_entry (record { offset = at; item = frame.0 }) (entries_at (at + 1) frame.1 bytes) es end h in
    is_open frame.0 frame.1 more.0 opened is more.1 more.2
at_frame at bytes gate es end None opened is h = absurd cc

pub at_gate : (at gate : ℕ) (bytes : List ℕ) (es : List Placed) (end : ℕ) → entries_at at 0 (gate ∷ bytes) ≡ Ok (es, end) → AtGate at bytes gate es end
unfolding entries_at
at_gate at gate bytes es end h = elim (cases_Bool (eqb gate open_gate)) [
  | inl same ↦ at_frame at bytes gate es end (framed bytes) (eqb-true gate open_gate same) refl (rw same at h)
  | inr other ↦
      let shut : ◌≡◌ {A = Found} (Ok ([], at)) (Ok (es, end)) = rw other at h in
      let parts = ok_parts [] es at end shut in
      is_closed (λ same. true≢false (sym (eq-eqb gate open_gate same) ∙ other)) (sym parts.0) (sym parts.1)
]

pub open_step : (at gate : ℕ) (bytes : List ℕ) (item : Record) (count : ℕ) → gate ≡ open_gate → framed bytes ≡ Some (item, count) →
    entries_at at 0 (gate ∷ bytes) ≡ with_entry (record { offset = at; item = item }) (entries_at (at + 1) count bytes)
unfolding entries_at
open_step at gate bytes item count opened is =
    let yes : eqb gate open_gate ≡ true = eq-eqb gate open_gate opened in
    rw (yes, is) refl

pub closed_step : (at gate : ℕ) (bytes : List ℕ) → gate ≢ open_gate → entries_at at 0 (gate ∷ bytes) ≡ Ok ([], at)
unfolding entries_at
closed_step at gate bytes shut =
    let no : eqb gate open_gate ≡ false = ne_eqb gate open_gate shut in
    rw no refl

pub damaged_step : (at gate : ℕ) (bytes : List ℕ) → gate ≡ open_gate → framed bytes ≡ None → entries_at at 0 (gate ∷ bytes) ≡ Err (Damaged at)
unfolding entries_at
damaged_step at gate bytes opened is =
    let same : eqb gate open_gate ≡ true = eq-eqb gate open_gate opened in
    rw (same, is) refl

pub end_step : (at : ℕ) → entries_at at 0 [] ≡ Err (Damaged at)
unfolding entries_at
end_step at = refl

pub skip_step : (at skip byte : ℕ) (bytes : List ℕ) → entries_at at (suc skip) (byte ∷ bytes) ≡ entries_at (at + 1) skip bytes
unfolding entries_at
skip_step at skip byte bytes = refl

pub none_there : (at skip : ℕ) (es : List Placed) (end : ℕ) → entries_at at skip [] ≡ Ok (es, end) → ⊥
unfolding entries_at
none_there at zero es end h = cc
none_there at (suc skip) es end h = cc

-- ---- one frame

-- the frame behind an open gate, in its parts
pub record IsFrame (bytes : List ℕ) (item : Record) (count : ℕ) : Type 0 where
  pub long : 4 + count ≤ length bytes
  pub is : from_be_bytes w32 (take 4 bytes) ≡ count
  pub least : 1 ≤ count
  pub most : count ≤ 2 ^ 20
  pub reads : read_record (take count (drop 4 bytes)) ≡ Some item

bind_some : {A B : Type 0} (o : Option A) (f : A → Option B) (y : B) → (o >>= f) ≡ Some y → (x : A) × (o ≡ Some x) × (f x ≡ Some y)
bind_some (Some x) f y e = (x, refl, e)
bind_some None f y e = absurd cc

only_some : {A : Type 0} (test : Bool) (x y : A) → only_if test x ≡ Some y → (test ≡ true) × (x ≡ y)
only_some true x y e = (refl, cc)
only_some false x y e = absurd cc

if_some : {A : Type 0} (test : Bool) (o : Option A) (y : A) → cond test o None ≡ Some y → (test ≡ true) × (o ≡ Some y)
if_some true o y e = (refl, e)
if_some false o y e = absurd cc

pair_is : {A B : Type 0} (a c : A) (b d : B) → ◌≡◌ {A = A × B} (a, b) (c, d) → (a ≡ c) × (b ≡ d)
pair_is {A} {B} a c b d e = (ap (λ (p : A × B). p.0) e, ap (λ (p : A × B). p.1) e)

abbrev body_at : ℕ × List ℕ → Option (List ℕ × List ℕ)
body_at count = cond (leb 1 count.0 && leb count.0 (2 ^ 20)) (text_at count.0 count.1) None

abbrev frame_of : ℕ → Record → Option (Record × ℕ)
frame_of count item = Some (item, 4 + count)

abbrev from_body : ℕ → List ℕ × List ℕ → Option (Record × ℕ)
from_body count body = read_record body.0 >>= frame_of count

abbrev from_count : ℕ × List ℕ → Option (Record × ℕ)
from_count count = body_at count >>= from_body count.0

pub frame_parts : (bytes : List ℕ) (item : Record) (size : ℕ) → framed bytes ≡ Some (item, size) → (count : ℕ) × (size ≡ 4 + count) × IsFrame bytes item count
unfolding framed
frame_parts bytes item size h =
    let a = bind_some (number_at w32 bytes) from_count (item, size) h in
    let count = a.0 in
    let n = only_some (leb 4 (length bytes)) (from_be_bytes w32 (take 4 bytes), drop 4 bytes) count a.1 in
    let long : 4 ≤ length bytes = leb-true _ _ n.0 in
    let count-is : from_be_bytes w32 (take 4 bytes) ≡ count.0 = ap (λ (p : ℕ × List ℕ). p.0) n.1 in
    let rest-is : drop 4 bytes ≡ count.1 = ap (λ (p : ℕ × List ℕ). p.1) n.1 in
    let b = bind_some (body_at count) (from_body count.0) (item, size) a.2 in
    let t = if_some (leb 1 count.0 && leb count.0 (2 ^ 20)) (text_at count.0 count.1) b.0 b.1 in
    let limits = and_parts (leb 1 count.0) (leb count.0 (2 ^ 20)) t.0 in
    let text = only_some (leb count.0 (length count.1)) (take count.0 count.1, drop count.0 count.1) b.0 t.1 in
    let enough : count.0 ≤ length count.1 = leb-true _ _ text.0 in
    let r = bind_some (read_record b.0.0) (frame_of count.0) (item, size) b.2 in
    let same : ◌≡◌ {A = Record × ℕ} (r.0, 4 + count.0) (item, size) = cc in
    let parts = pair_is r.0 item (4 + count.0) size same in
    let body-is : take count.0 (drop 4 bytes) ≡ b.0.0 = ap (λ (l : List ℕ). take count.0 l) rest-is ∙ ap (λ (p : List ℕ × List ℕ). p.0) text.1 in (
      count.0,
      sym parts.1,
      record {
        long = omega (arith, enough, long, length-drop 4 bytes, ap length rest-is);
        is = count-is;
        least = leb-true _ _ limits.0;
        most = leb-true _ _ limits.1;
        reads = ap read_record body-is ∙ r.1 ∙ ap (λ (x : Record). Some x) parts.0;
      },
    )

pub frame_from : (bytes : List ℕ) (item : Record) (count : ℕ) → IsFrame bytes item count → framed bytes ≡ Some (item, 4 + count)
unfolding framed
frame_from bytes item count h =
    let four : leb 4 (length bytes) ≡ true = le-leb _ _ (omega (arith, h.long)) in
    let least : leb 1 count ≡ true = le-leb _ _ h.least in
    let most : leb count (2 ^ 20) ≡ true = le-leb _ _ h.most in
    let enough : leb count (length (drop 4 bytes)) ≡ true = le-leb _ _ (omega (arith, h.long, length-drop 4 bytes)) in
    rw (four, h.is, least, most, enough, h.reads) refl

-- a frame depends on its own bytes alone
pub frame_same : (xs ys : List ℕ) (item : Record) (count : ℕ) → IsFrame xs item count → take (4 + count) ys ≡ take (4 + count) xs → IsFrame ys item count
frame_same xs ys item count h same =
    let four : take 4 ys ≡ take 4 xs = sym (take-take 4 (4 + count) ys (omega arith)) ∙ ap (λ (l : List ℕ). take 4 l) same
    ∙ take-take 4 (4 + count) xs (omega arith) in
    let body : take count (drop 4 ys) ≡ take count (drop 4 xs) = sym (drop-take 4 count ys) ∙ ap (λ (l : List ℕ). drop 4 l) same ∙ drop-take 4 count xs in
    record {
      long = omega (arith, h.long, ap length same, length-take (4 + count) ys, length-take (4 + count) xs);
      is = ap (from_be_bytes w32) four ∙ h.is;
      least = h.least;
      most = h.most;
      reads = ap read_record body ∙ h.reads;
    }

-- ---- a front of a file

pub later : (xs : List ℕ) (at skip : ℕ) (es : List Placed) (end : ℕ) → entries_at at skip xs ≡ Ok (es, end) → (at + skip ≤ end) × (end < at + length xs)
later [] at skip es end h = absurd (none_there at skip es end h)
later (x ∷ xs) at zero es end h = elim (at_gate at x xs es end h) [
  | is_open item count rest opened is more split ↦
      let then = later xs (at + 1) count rest end more in
      (omega (arith, then.0), omega (arith, then.1))
  | is_closed shut none here ↦ (omega (arith, here), omega (arith, here))
]
later (x ∷ xs) at (suc skip) es end h =
    let then = later xs (at + 1) skip es end (sym (skip_step at skip x xs) ∙ h) in
    (omega (arith, then.0), omega (arith, then.1))

head_same : (x y : ℕ) (xs ys : List ℕ) → ◌≡◌ {A = List ℕ} (x ∷ xs) (y ∷ ys) → (x ≡ y) × (xs ≡ ys)
head_same x y xs ys e = (cc, cc)

-- another file with the same front: it has the same entries there, and goes on from the gate
pub goes_on : (xs ys : List ℕ) (at skip k : ℕ) (es : List Placed) → entries_at at skip xs ≡ Ok (es, at + k) → take k ys ≡ take k xs → k ≤ length ys
    → entries_at at skip ys ≡ with_entries es (entries_at (at + k) 0 (drop k ys))
goes_on [] ys at skip k es h same long = absurd (none_there at skip es (at + k) h)
goes_on (x ∷ xs) ys at zero zero es h same long = elim (at_gate at x xs es (at + 0) h) [
  | is_open item count rest opened is more split ↦ absurd (omega (arith, (later xs (at + 1) count rest (at + 0) more).0))
  | is_closed shut none here ↦ rw (none, add-zero) (sym (with_entries-nil (entries_at at 0 ys)))
]
goes_on (x ∷ xs) ys at (suc skip) zero es h same long = absurd (omega (arith, (later (x ∷ xs) at (suc skip) es (at + 0) h).0))
goes_on (x ∷ xs) [] at skip (suc k) es h same long = absurd (omega arith)
goes_on (x ∷ xs) (y ∷ ys) at zero (suc k) es h same long =
    let heads = head_same y x (take k ys) (take k xs) same in
    elim (at_gate at x xs es (at + suc k) h) [
      | is_open item size rest opened is more split ↦
          let entry : Placed = record { offset = at; item = item } in
          let frame = frame_parts xs item size is in
          let count = frame.0 in
          let end : at + suc k ≡ (at + 1) + k = omega arith in
          let more_at : entries_at (at + 1) size xs ≡ Ok (rest, (at + 1) + k) = more ∙ ap (λ (n : ℕ). Ok (rest, n)) end in
          let fits : size ≤ k = omega (arith, (later xs (at + 1) size rest (at + suc k) more).0) in
          let within : 4 + count ≤ k = omega (arith, frame.1, fits) in
          let same_frame : take (4 + count) ys ≡ take (4 + count) xs = sym (take-take (4 + count) k ys within)
          ∙ ap (λ (l : List ℕ). take (4 + count) l) heads.1 ∙ take-take (4 + count) k xs within in
          let again : framed ys ≡ Some (item, size) = frame_from ys item count (frame_same xs ys item count frame.2 same_frame)
          ∙ ap (λ (n : ℕ). Some (item, n)) (sym frame.1) in
          open_step at y ys item size (heads.0 ∙ opened) again
          ∙ ap (with_entry entry) (goes_on xs ys (at + 1) size k rest more_at heads.1 (omega arith))
          ∙ with_entries-cons entry rest (entries_at ((at + 1) + k) 0 (drop k ys))
          ∙ ap (λ (n : ℕ). with_entries (entry ∷ rest) (entries_at n 0 (drop k ys))) (sym end)
          ∙ ap (λ (l : List Placed). with_entries l (entries_at (at + suc k) 0 (drop k ys))) (sym split)
      | is_closed shut none here ↦ absurd (omega (arith, here))
    ]
goes_on (x ∷ xs) (y ∷ ys) at (suc skip) (suc k) es h same long =
    let heads = head_same y x (take k ys) (take k xs) same in
    let end : at + suc k ≡ (at + 1) + k = omega arith in
    let before : entries_at (at + 1) skip xs ≡ Ok (es, (at + 1) + k) = sym (skip_step at skip x xs) ∙ h ∙ ap (λ (n : ℕ). Ok (es, n)) end in
    skip_step at skip y ys
    ∙ goes_on xs ys (at + 1) skip k es before heads.1 (omega arith)
    ∙ ap (λ (n : ℕ). with_entries es (entries_at n 0 (drop k ys))) (sym end)

pub skips : (front rest : List ℕ) (at : ℕ) → entries_at at (length front) (front ++ rest) ≡ entries_at (at + length front) 0 rest
skips [] rest at = ap (λ (n : ℕ). entries_at n 0 rest) (sym (add-zero at))
skips (x ∷ front) rest at =
    let end : (at + 1) + length front ≡ at + suc (length front) = omega arith in
    skip_step at (length front) x (front ++ rest) ∙ skips front rest (at + 1) ∙ ap (λ (n : ℕ). entries_at n 0 rest) end
