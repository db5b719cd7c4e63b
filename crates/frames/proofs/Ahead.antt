-- What is read ahead of a scan, by one piece more.
use Rattle.std.proofs.Common.{◌≡◌, ℕ, ◌+◌, ◌-◌, ◌≤◌, List, ◌++◌, length, take, drop, sym, ap, ◌∙◌, append_assoc, arith}
use Rattle.std.proofs.lemmas.List.{length-append, length-take-le, length-drop, drop-drop, take-append-drop, drop-append-le}
use Rattle.frames.specs.Ahead.{Ahead, IsAhead, read_to}

-- the bytes that follow what was read are read too
pub one_piece : (image : List ℕ) (at : ℕ) (bytes : List ℕ) (left count left' : ℕ) (piece : List ℕ) →
    IsAhead image (record { at = at; bytes = bytes; left = left }) → count ≤ left → left' + count ≡ left →
    piece ≡ take count (drop (at + length bytes) image) →
    IsAhead image (record { at = at; bytes = bytes ++ piece; left = left' })
one_piece image at bytes left count left' piece ahead le less is =
    let behind = drop (at + length bytes) image in
    let enough : count ≤ length behind = omega (arith, le, ahead.size, length-drop (at + length bytes) image) in
    let long : length piece ≡ count = ap length is ∙ length-take-le count behind enough in
    let size : length (bytes ++ piece) ≡ length bytes + count = length-append bytes piece ∙ ap (λ n. length bytes + n) long in
    let ends : at + length (bytes ++ piece) ≡ at + length bytes + count = omega (arith, size) in
    record {
      bytes =
          append_assoc bytes piece (drop (at + length (bytes ++ piece)) image)
          ∙ ap (λ l. bytes ++ l) (ap (λ p. p ++ drop (at + length (bytes ++ piece)) image) is
          ∙ ap (λ n. take count behind ++ drop n image) ends
          ∙ ap (λ l. take count behind ++ l) (sym (drop-drop count (at + length bytes) image))
          ∙ take-append-drop count behind)
          ∙ ahead.bytes;
      size = omega (arith, size, less, ahead.size);
    }

-- where a reader stands once a piece was read behind what it has not passed
pub read_on : (passed read count : ℕ) (window piece now : List ℕ) → passed ≤ length window → length window ≤ read + passed →
    now ≡ drop passed window ++ piece → length piece ≡ count →
    (length now ≡ length (drop passed window) + count) × (read + count + 0 - length now ≡ read + passed - length window)
read_on passed read count window piece now within before is size =
    let taken : length now ≡ length (drop passed window) + count = omega (arith, ap length is, length-append (drop passed window) piece, size) in
    (taken, omega (arith, taken, length-drop passed window, within, before))

-- what is left is read on the whole
pub ahead_there : (image : List ℕ) (a : Ahead) → IsAhead image a → length (drop (read_to a) image) ≡ a.left
ahead_there image a ahead = omega (arith, ahead.size, length-drop (read_to a) image)

-- so many bytes are passed
pub passed : (image : List ℕ) (a : Ahead) (count : ℕ) (b : Ahead) → IsAhead image a → count ≤ length a.bytes → b.at ≡ a.at + count
    → b.bytes ≡ drop count a.bytes
    → b.left ≡ a.left → IsAhead image b
passed image a count b ahead le at bytes left =
    let size : length b.bytes + count ≡ length a.bytes = omega (arith, ap length bytes, length-drop count a.bytes, le) in
    let ends : read_to b ≡ read_to a = omega (arith, size, at) in
    record {
      bytes =
          ap (λ n. b.bytes ++ drop n image) ends ∙ ap (λ l. l ++ drop (read_to a) image) bytes
          ∙ sym (drop-append-le count a.bytes (drop (read_to a) image) le)
          ∙ ap (drop count) ahead.bytes ∙ drop-drop count a.at image ∙ ap (λ n. drop n image) (sym at);
      size = omega (arith, ends, left, ahead.size);
    }
