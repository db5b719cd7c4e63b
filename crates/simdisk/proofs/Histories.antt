-- What one change more does to a history.
use Rattle.std.proofs.Common.{◌≡◌, ℕ, zero, suc, ◌+◌, ◌<◌, ◌≤◌, max, List, [], ◌∷◌, ◌++◌, length, get_or, take, drop, Result, Ok, Err, refl, sym}
use Rattle.std.proofs.Common.{subst, ap, ◌∙◌, arith}
use Rattle.std.proofs.lemmas.Bool.{false≢true}
use Rattle.std.proofs.lemmas.List.{take_all, take-append-le, drop-append-le, length-append, length-drop, nil_from_length, drop-drop, take_more, length-take-le}
use Rattle.std.specs.Prelude.{OnOk, IsOk}
use Rattle.disk.specs.File.{File}
use Rattle.simdisk.specs.declared.change.Change.{Change}
use Rattle.simdisk.specs.Replay.{History, kept, size, change_end, bytes_in_all, furthest, with_made, replay, settled, file_at, file_of, pushed, IsStored}

-- one change more is one step more
replay_push : (changes : List Change) (change : Change) (store bytes : List ℕ) (file : File) → bytes_in_all changes ≡ length store →
    length bytes ≡ size change → replay (changes ++ change ∷ []) (store ++ bytes) file ≡ with_made change bytes (replay changes store file)
replay_push [] change store bytes file stored fits =
    let none : store ≡ [] = nil_from_length store (sym stored) in
    let all : take (size change) (store ++ bytes) ≡ bytes = ap (λ (l : List ℕ). take (size change) (l ++ bytes)) none
    ∙ take_all (size change) bytes (omega (arith, fits)) in
    ap (λ (l : List ℕ). with_made change l file) all
replay_push (first ∷ changes) change store bytes file stored fits =
    let front : take (size first) (store ++ bytes) ≡ take (size first) store = take-append-le (size first) store bytes (omega arith) in
    let back : drop (size first) (store ++ bytes) ≡ drop (size first) store ++ bytes = drop-append-le (size first) store bytes (omega arith) in
    ap (λ (l : List ℕ). replay (changes ++ change ∷ []) (drop (size first) (store ++ bytes)) (with_made first l file)) front
    ∙ ap (λ (l : List ℕ). replay (changes ++ change ∷ []) l (with_made first (take (size first) store) file)) back
    ∙ replay_push changes change (drop (size first) store) bytes (with_made first (take (size first) store) file)
    (omega (arith, stored, length-drop (size first) store)) fits

total-append : (changes others : List Change) → bytes_in_all (changes ++ others) ≡ bytes_in_all changes + bytes_in_all others
total-append [] others = omega arith
total-append (change ∷ changes) others = omega (arith, total-append changes others)

total-take : (n : ℕ) (changes : List Change) → bytes_in_all (take n changes) ≤ bytes_in_all changes
total-take zero changes = omega arith
total-take (suc n) [] = omega arith
total-take (suc n) (change ∷ changes) = omega (arith, total-take n changes)

module _ (h : History) (change : Change) (bytes : List ℕ) (stored : IsStored h) (fits : length bytes ≡ size change) where
  pub now : file_of (pushed h change bytes) ≡ with_made change bytes (file_of h)
  now =
      ap (λ (cs : List Change). replay cs (h.store ++ bytes) (settled h.base)) (take_all (length (h.changes ++ change ∷ []))
      (h.changes ++ change ∷ []) (omega arith))
      ∙ replay_push h.changes change h.store bytes (settled h.base) stored fits
      ∙ ap (λ (cs : List Change). with_made change bytes (replay cs h.store (settled h.base))) (sym (take_all (length h.changes) h.changes (omega arith)))

  pub stored_then : IsStored (pushed h change bytes)
  stored_then = omega (arith, stored, fits, total-append h.changes (change ∷ []), length-append h.store bytes)

-- what was kept is one change more
pub then_pushed : (h : History) (changes : List Change) (store : List ℕ) (change : Change) (bytes : List ℕ) → changes ≡ h.changes ++ change ∷ [] →
    store ≡ h.store ++ bytes → kept h.base changes store ≡ pushed h change bytes
then_pushed h changes store change bytes e f = ap (λ (cs : List Change). kept h.base cs store) e
    ∙ ap (λ (l : List ℕ). kept h.base (h.changes ++ change ∷ []) l) f

module _ (h new : History) (change : Change) (bytes : List ℕ) (stored : IsStored h) (fits : length bytes ≡ size change) (is : new ≡ pushed h change bytes) where
  pub stored_new : IsStored new
  stored_new = subst IsStored (sym is) (stored_then h change bytes stored fits)

  pub file_new : file_of new ≡ with_made change bytes (file_of h)
  file_new = ap file_of is ∙ now h change bytes stored fits

-- what holds of an answer that is Ok
pub ok_of : {T E A : Type 0} (r : Result T E) → IsOk r → OnOk r A → A
ok_of (Ok x) ok a = a
ok_of (Err e) ok a = absurd (false≢true ok)

replay_append : (changes : List Change) (change : Change) (store : List ℕ) (file : File) →
    replay (changes ++ change ∷ []) store file ≡ with_made change (take (size change) (drop (bytes_in_all changes) store)) (replay changes store file)
replay_append [] change store file = refl
replay_append (first ∷ changes) change store file =
    replay_append changes change (drop (size first) store) (with_made first (take (size first) store) file)
    ∙ ap (λ (l : List ℕ). with_made change (take (size change) l) (replay changes (drop (size first) store)
    (with_made first (take (size first) store) file))) (drop-drop (bytes_in_all changes) (size first) store)

-- how many bytes one change more has, and that the store has them
pub total-more : (changes : List Change) (made : ℕ) (d : Change) → made < length changes →
    bytes_in_all (take (made + 1) changes) ≡ bytes_in_all (take made changes) + size (get_or changes made d)
total-more changes made d lt = ap bytes_in_all (take_more changes made d lt) ∙ omega (arith, total-append (take made changes) (get_or changes made d ∷ []))

pub total-fits : (changes : List Change) (made : ℕ) (d : Change) → made < length changes →
    bytes_in_all (take made changes) + size (get_or changes made d) ≤ bytes_in_all changes
total-fits changes made d lt = omega (arith, total-more changes made d lt, total-take (made + 1) changes)

-- one call more of a history
pub file-more : (h : History) (made : ℕ) (d : Change) → made < length h.changes
    → file_at h (made + 1) ≡ with_made (get_or h.changes made d) (take (size (get_or h.changes made d)) (drop (bytes_in_all (take made h.changes)) h.store))
    (file_at h made)
file-more h made d lt =
    ap (λ (cs : List Change). replay cs h.store (settled h.base)) (take_more h.changes made d lt)
    ∙ replay_append (take made h.changes) (get_or h.changes made d) h.store (settled h.base)

-- the furthest end of one change more
pub furthest-push : (changes : List Change) (change : Change) → furthest (changes ++ change ∷ []) ≡ max (furthest changes) (change_end change)
furthest-push [] change = omega arith
furthest-push (first ∷ changes) change = omega (arith, furthest-push changes change)

-- each range ends within the furthest
pub end-within : (changes : List Change) (made : ℕ) (d : Change) → made < length changes → change_end (get_or changes made d) ≤ furthest changes
end-within [] made d lt = absurd (omega arith)
end-within (first ∷ changes) zero d lt = omega arith
end-within (first ∷ changes) (suc made) d lt = omega (arith, end-within changes made d (omega arith))

replay-count : (changes : List Change) (store : List ℕ) (file : File) → length (replay changes store file).changes ≡ length file.changes + length changes
replay-count [] store file = omega arith
replay-count (change ∷ changes) store file = omega (arith, replay-count changes (drop (size change) store) (with_made change (take (size change) store) file))

-- how many changes there are behind so many
pub count-at : (h : History) (made : ℕ) → made ≤ length h.changes → length (file_at h made).changes ≡ made
count-at h made le = omega (arith, replay-count (take made h.changes) h.store (settled h.base), length-take-le made h.changes le)
