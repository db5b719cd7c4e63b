-- What stands at the front of a file's rest, whatever the bytes are that were not read yet.
use Rattle.std.proofs.Common.{◌≡◌, ℕ, ◌+◌, ◌^◌, ◌<◌, ◌≤◌, List, ◌∷◌, ◌++◌, length, take, drop, Option, Some, None, refl, sym, ap, ◌∙◌, arith}
use Rattle.std.specs.Int.{w32, from_be_bytes}
use Rattle.std.proofs.lemmas.List.{length-append, length-take-le, take-append-le, drop-append-le, take-append-drop, drop-drop}
use Rattle.spelling.specs.record.Record.{Record}
use Rattle.spelling.specs.Reading.{read_record}
use Rattle.frames.specs.Gate.{open_gate}
use Rattle.frames.specs.Entries.{framed, entries_at, with_entry}
use Rattle.frames.proofs.Scan.{IsFrame, frame_parts, frame_from, open_step, skips}

-- nothing is framed where no frame can be
none_when : (xs : List ℕ) → ((item : Record) (count : ℕ) → IsFrame xs item count → ⊥) → framed xs ≡ None
none_when xs never = by_value (framed xs) refl
  where
    by_value : (o : Option (Record × ℕ)) → framed xs ≡ o → framed xs ≡ None
    by_value None is = is
    by_value (Some frame) is = let parts = frame_parts xs frame.0 frame.1 is in absurd (never frame.0 parts.0 parts.2)

pub none-short : (xs : List ℕ) → length xs < 4 → framed xs ≡ None
none-short xs lt = none_when xs (λ item count h. absurd (omega (arith, lt, h.long)))

module _ (xs : List ℕ) (c : ℕ) (is : from_be_bytes w32 (take 4 xs) ≡ c) where
  pub none-least : c < 1 → framed xs ≡ None
  none-least lt = none_when xs (λ item count h. absurd (omega (arith, lt, sym is ∙ h.is, h.least)))

  pub none-most : 2 ^ 20 < c → framed xs ≡ None
  none-most lt = none_when xs (λ item count h. absurd (omega (arith, lt, sym is ∙ h.is, h.most)))

  pub none-long : length xs < 4 + c → framed xs ≡ None
  none-long lt = none_when xs (λ item count h. absurd (omega (arith, lt, sym is ∙ h.is, h.long)))

  pub none-record : read_record (take c (drop 4 xs)) ≡ None → framed xs ≡ None
  none-record none = none_when xs (λ item count h.
      let same : count ≡ c = sym h.is ∙ is in
      no_some item (sym none ∙ ap (λ n. read_record (take n (drop 4 xs))) (sym same) ∙ h.reads))
    where
      no_some : (item : Record) → ◌≡◌ {A = Option Record} None (Some item) → ⊥
      no_some item e = cc

  pub some-record : (item : Record) → 1 ≤ c → c ≤ 2 ^ 20 → 4 + c ≤ length xs → read_record (take c (drop 4 xs)) ≡ Some item → framed xs ≡ Some (item, 4 + c)
  some-record item least most long reads = frame_from xs item c (record { long = long; is = is; least = least; most = most; reads = reads })

-- what is behind a gate, of which the first bytes were read
module _ (rest beyond : List ℕ) where
  pub whole-length : length (rest ++ beyond) ≡ length rest + length beyond
  whole-length = length-append rest beyond

  pub count-read : 4 ≤ length rest → from_be_bytes w32 (take 4 (rest ++ beyond)) ≡ from_be_bytes w32 (take 4 rest)
  count-read le = ap (from_be_bytes w32) (take-append-le 4 rest beyond le)

  pub body-read : (c : ℕ) → 4 ≤ length rest → c ≤ length (drop 4 rest) → take c (drop 4 (rest ++ beyond)) ≡ take c (drop 4 rest)
  body-read c le enough = ap (take c) (drop-append-le 4 rest beyond le) ∙ take-append-le c (drop 4 rest) beyond enough

-- behind a frame
pub behind_frame : (at gate : ℕ) (xs : List ℕ) (item : Record) (size whole : ℕ) → gate ≡ open_gate → framed xs ≡ Some (item, size) → size ≤ length xs →
    whole ≡ 1 + size →
    entries_at at 0 (gate ∷ xs) ≡ with_entry (record { offset = at; item = item }) (entries_at (at + whole) 0 (drop whole (gate ∷ xs)))
behind_frame at gate xs item size whole opened is fits one_more =
    let front : length (take size xs) ≡ size = length-take-le size xs fits in
    let ends : at + 1 + size ≡ at + whole = omega (arith, one_more) in
    let behind : drop size xs ≡ drop whole (gate ∷ xs) = drop-drop size 1 (gate ∷ xs) ∙ ap (λ n. drop n (gate ∷ xs)) (sym one_more) in
    open_step at gate xs item size opened is
    ∙ ap (with_entry (record { offset = at; item = item }))
    (ap (entries_at (at + 1) size) (sym (take-append-drop size xs))
    ∙ ap (λ n. entries_at (at + 1) n (take size xs ++ drop size xs)) (sym front)
    ∙ skips (take size xs) (drop size xs) (at + 1)
    ∙ ap (λ n. entries_at (at + 1 + n) 0 (drop size xs)) front
    ∙ ap (λ n. entries_at n 0 (drop size xs)) ends
    ∙ ap (entries_at (at + whole) 0) behind)
