-- Bytes of files at an offset.
use Rattle.std.proofs.Common.{◌≡◌, ℕ, ◌+◌, ◌<◌, ◌≤◌, List, ◌++◌, length, get_or, take, drop, sym, ap, ◌∙◌, append_assoc, append-nil, refl, [], arith}
use Rattle.std.proofs.lemmas.List.{drop_at, take_at, length-append, length-take-le, length-drop, get_or-take, get_or-drop, ext_get_or, get_or_append_left}
use Rattle.disk.specs.Image.{with_bytes}

-- lists that agree in a range
pub take_agrees : (xs ys : List ℕ) (n : ℕ) → n ≤ length xs → n ≤ length ys → ((i : ℕ) → i < n → get_or xs i 0 ≡ get_or ys i 0) → take n xs ≡ take n ys
take_agrees xs ys n long_xs long_ys same =
    let size_xs = length-take-le n xs long_xs in
    let size_ys = length-take-le n ys long_ys in
    ext_get_or 0 (take n xs) (take n ys) (size_xs ∙ sym size_ys) (λ i lt.
    let below : i < n = omega (arith, lt, size_xs) in
    get_or-take n xs i 0 below ∙ same i below ∙ sym (get_or-take n ys i 0 below))

pub get-drop : (p : ℕ) (l : List ℕ) (i : ℕ) → get_or (drop p l) i 0 ≡ get_or l (p + i) 0
get-drop p l i = get_or-drop p l i 0

pub drops-agree : (xs ys : List ℕ) (p n : ℕ) → p + n ≤ length xs → p + n ≤ length ys → ((i : ℕ) → i < n → get_or xs (p + i) 0 ≡ get_or ys (p + i) 0)
    → take n (drop p xs) ≡ take n (drop p ys)
drops-agree xs ys p n long_xs long_ys same =
    take_agrees (drop p xs) (drop p ys) n (omega (arith, long_xs, length-drop p xs)) (omega (arith, long_ys, length-drop p ys))
    (λ i lt. get-drop p xs i ∙ same i lt ∙ sym (get-drop p ys i))

pub take-all : (l : List ℕ) (n : ℕ) → length l ≡ n → take n l ≡ l
take-all l n e = ap (λ (m : ℕ). take m l) (sym e) ∙ ap (λ (m : List ℕ). take (length l) m) (sym (append-nil l)) ∙ take_at l [] (length l) refl

-- where bytes were written, and how long the file is then
pub inside : (at : ℕ) (bytes file : List ℕ) (i : ℕ) → at ≤ length file → i < length bytes → get_or (with_bytes at bytes file) (at + i) 0 ≡ get_or bytes i 0
inside at bytes file i le lt =
    let rest = drop (at + length bytes) file in
    let size : length (take at file) ≡ at = length-take-le at file le in
    let grouped : with_bytes at bytes file ≡ take at file ++ (bytes ++ rest) = append_assoc (take at file) bytes rest in
    sym (get-drop at (with_bytes at bytes file) i)
    ∙ ap (λ (l : List ℕ). get_or (drop at l) i 0) grouped
    ∙ ap (λ (l : List ℕ). get_or l i 0) (drop_at (take at file) (bytes ++ rest) at size)
    ∙ get_or_append_left bytes rest 0 i lt

pub sized : (at : ℕ) (bytes file : List ℕ) → at ≤ length file
    → (length file ≤ length (with_bytes at bytes file)) × (at + length bytes ≤ length (with_bytes at bytes file))
sized at bytes file le =
    let rest = drop (at + length bytes) file in
    let size : length (take at file) ≡ at = length-take-le at file le in
    let grouped : with_bytes at bytes file ≡ take at file ++ (bytes ++ rest) = append_assoc (take at file) bytes rest in (
      omega (arith, ap length grouped, size, length-append (take at file) (bytes ++ rest), length-append bytes rest, length-drop (at + length bytes) file),
      omega (arith, ap length grouped, size, length-append (take at file) (bytes ++ rest), length-append bytes rest, length-drop (at + length bytes) file),
    )
