-- What a crash leaves by fates is within the disk model.
use Rattle.std.proofs.Common.{◌≡◌, ◌⊎◌, inl, inr, ℕ, ◌+◌, ◌-◌, ◌<◌, ◌≤◌, List, [], ◌∷◌, ◌++◌, length, get_or, take, drop, replicate, true, false}
use Rattle.std.proofs.Common.{refl, sym, ap, ◌∙◌, append-nil, arith, length-append}
use Rattle.std.proofs.lemmas.List.{length-take, length-take-le, length-drop, length-replicate, get_or_append_left, get_or-take}
use Rattle.disk.specs.declared.plan.Fate.{Fate}
use Rattle.disk.specs.declared.plan.Fate.TheVariants.{Old, New, Filled}
use Rattle.disk.proofs.Runs.{get_or-with_bytes}
use Rattle.disk.specs.Image.{MayLeave, IsUntouched, with_bytes, after_write}
use Rattle.disk.specs.File.{FileChange, File, wrote, tried, cut, laid, apply, seen_by, kept_by, written_by, none_of, surface, with_change, by_fate}
use Rattle.disk.specs.File.{crashed_by, crash_leaves}

-- within the file, bytes are laid as they are written
pub laid_is : (at : ℕ) (bytes file : List ℕ) → at ≤ length file → laid at bytes file ≡ with_bytes at bytes file
laid_is at bytes file le =
    let none : at - length file ≡ 0 = omega (arith, le) in
    ap (λ (l : List ℕ). with_bytes at bytes l) (ap (λ (n : ℕ). file ++ replicate n 0) none ∙ append-nil file)

-- a write within the file, as the disk model says it
pub wrote_surface : (at : ℕ) (bytes : List ℕ) (file : File) → at ≤ length (surface file).seen →
    surface (with_change (wrote at bytes) file) ≡ after_write at bytes (surface file)
wrote_surface at bytes file le =
    ap (λ (l : List ℕ). record { seen = l; kept = (surface file).kept; written = (at, length bytes) ∷ (surface file).written; synced = false })
    (laid_is at bytes (surface file).seen le)

padded-size : (at : ℕ) (file : List ℕ) → at ≤ length (file ++ replicate (at - length file) 0)
padded-size at file = omega (arith, length-append file (replicate (at - length file) 0), length-replicate {A = ℕ} (at - length file) 0)

laid-size : (at : ℕ) (bytes file : List ℕ) → length file ≤ length (laid at bytes file)
laid-size at bytes file =
    let padded = file ++ replicate (at - length file) 0 in
    omega (
      arith,
      length-append (take at padded ++ bytes) (drop (at + length bytes) padded),
      length-append (take at padded) bytes,
      length-take-le at padded (padded-size at file),
      length-drop (at + length bytes) padded,
      length-append file (replicate (at - length file) 0),
    )

-- outside its range a file stays as it was
laid-outside : (at : ℕ) (bytes file : List ℕ) (place : ℕ) → place < length file → (place < at) ⊎ (at + length bytes ≤ place) →
    get_or (laid at bytes file) place 0 ≡ get_or file place 0
laid-outside at bytes file place lt un =
    get_or-with_bytes at bytes (file ++ replicate (at - length file) 0) place (padded-size at file) un
    ∙ get_or_append_left file (replicate (at - length file) 0) 0 place lt

-- what is kept is no longer than what a read gives, and than what a crash leaves
pub kept-seen : (durable : List ℕ) (changes : List FileChange) → kept_by durable changes ≤ length (seen_by durable changes)
kept-seen durable [] = omega arith
kept-seen durable (wrote at bytes ∷ changes) = omega (arith, kept-seen durable changes, laid-size at bytes (seen_by durable changes))
kept-seen durable (tried at bytes ∷ changes) = kept-seen durable changes
kept-seen durable (cut len ∷ changes) = omega (arith, kept-seen durable changes, length-take len (seen_by durable changes))

fate-size : (fate : Fate) (change : FileChange) (file : List ℕ) (kept : ℕ) (durable : List ℕ) (changes : List FileChange) →
    kept_by durable changes ≤ length file → kept_by durable (change ∷ changes) ≤ length (by_fate fate change file)
fate-size Old (wrote at bytes) file kept durable changes le = le
fate-size Old (tried at bytes) file kept durable changes le = le
fate-size Old (cut len) file kept durable changes le = omega (arith, le)
fate-size New (wrote at bytes) file kept durable changes le = omega (arith, le, laid-size at bytes file)
fate-size New (tried at bytes) file kept durable changes le = omega (arith, le, laid-size at bytes file)
fate-size New (cut len) file kept durable changes le = omega (arith, le, length-take len file)
fate-size (Filled byte) (wrote at bytes) file kept durable changes le = omega (arith, le, laid-size at (replicate (length bytes) byte) file)
fate-size (Filled byte) (tried at bytes) file kept durable changes le = omega (arith, le, laid-size at (replicate (length bytes) byte) file)
fate-size (Filled byte) (cut len) file kept durable changes le = omega (arith, le, length-take len file)

pub kept-crashed : (fates : List Fate) (durable : List ℕ) (changes : List FileChange) → kept_by durable changes ≤ length (crashed_by fates durable changes)
kept-crashed fates durable [] = omega arith
kept-crashed fates durable (change ∷ changes) = fate-size (get_or fates (length changes) Old) change
    (crashed_by fates durable changes) 0 durable changes (kept-crashed fates durable changes)

-- a change leaves a place outside its range, by each fate
fate-outside : (fate : Fate) (change : FileChange) (file : List ℕ) (durable : List ℕ) (changes : List FileChange) (place : ℕ) → place < length file →
    place < kept_by durable (change ∷ changes) → IsUntouched place (written_by (change ∷ changes))
    → get_or (by_fate fate change file) place 0 ≡ get_or file place 0
fate-outside Old change file durable changes place lt kept un = refl
fate-outside New (wrote at bytes) file durable changes place lt kept un = laid-outside at bytes file place lt un.0
fate-outside New (tried at bytes) file durable changes place lt kept un = laid-outside at bytes file place lt un.0
fate-outside New (cut len) file durable changes place lt kept un = get_or-take len file place 0 (omega (arith, kept))
fate-outside (Filled byte) (wrote at bytes) file durable changes place lt kept un = laid-outside at (replicate (length bytes) byte) file place lt
    (same-size un.0)
  where
    same-size : (place < at) ⊎ (at + length bytes ≤ place) → (place < at) ⊎ (at + length (replicate (length bytes) byte) ≤ place)
    same-size (inl before) = inl before
    same-size (inr behind) = inr (omega (arith, behind, length-replicate (length bytes) byte))
fate-outside (Filled byte) (tried at bytes) file durable changes place lt kept un = laid-outside at (replicate (length bytes) byte) file place lt
    (same-size un.0)
  where
    same-size : (place < at) ⊎ (at + length bytes ≤ place) → (place < at) ⊎ (at + length (replicate (length bytes) byte) ≤ place)
    same-size (inl before) = inl before
    same-size (inr behind) = inr (omega (arith, behind, length-replicate (length bytes) byte))
fate-outside (Filled byte) (cut len) file durable changes place lt kept un = get_or-take len file place 0 (omega (arith, kept))

seen-outside : (change : FileChange) (file : List ℕ) (durable : List ℕ) (changes : List FileChange) (place : ℕ) → place < length file →
    place < kept_by durable (change ∷ changes) → IsUntouched place (written_by (change ∷ changes))
    → get_or (apply change file) place 0 ≡ get_or file place 0
seen-outside (wrote at bytes) file durable changes place lt kept un = laid-outside at bytes file place lt un.0
seen-outside (tried at bytes) file durable changes place lt kept un = refl
seen-outside (cut len) file durable changes place lt kept un = get_or-take len file place 0 (omega (arith, kept))

earlier-kept : (change : FileChange) (durable : List ℕ) (changes : List FileChange) (place : ℕ) → place < kept_by durable (change ∷ changes) →
    place < kept_by durable changes
earlier-kept (wrote at bytes) durable changes place lt = lt
earlier-kept (tried at bytes) durable changes place lt = lt
earlier-kept (cut len) durable changes place lt = omega (arith, lt)

earlier-untouched : (change : FileChange) (changes : List FileChange) (place : ℕ) → IsUntouched place (written_by (change ∷ changes)) →
    IsUntouched place (written_by changes)
earlier-untouched (wrote at bytes) changes place un = un.1
earlier-untouched (tried at bytes) changes place un = un.1
earlier-untouched (cut len) changes place un = un

untouched-crashed : (fates : List Fate) (durable : List ℕ) (changes : List FileChange) (place : ℕ) → place < kept_by durable changes →
    IsUntouched place (written_by changes)
    → get_or (crashed_by fates durable changes) place 0 ≡ get_or (seen_by durable changes) place 0
untouched-crashed fates durable [] place lt un = refl
untouched-crashed fates durable (change ∷ changes) place lt un =
    let before = earlier-kept change durable changes place lt in
    fate-outside (get_or fates (length changes) Old) change (crashed_by fates durable changes) durable changes place
    (omega (arith, before, kept-crashed fates durable changes)) lt un
    ∙ untouched-crashed fates durable changes place before (earlier-untouched change changes place un)
    ∙ sym (seen-outside change (seen_by durable changes) durable changes place (omega (arith, before, kept-seen durable changes)) lt un)

-- a crash by any fates leaves what the disk model allows
pub crashed_may : (fates : List Fate) (file : File) → MayLeave (surface file) (crash_leaves fates file)
crashed_may fates file = record {
  no_shorter = kept-crashed fates file.durable file.changes;
  untouched = λ place lt un. untouched-crashed fates file.durable file.changes place lt un;
  unchanged = λ none. same file.changes none;
}
  where
    same : (changes : List FileChange) → none_of changes ≡ true → crashed_by fates file.durable changes ≡ seen_by file.durable changes
    same [] none = refl
    same (change ∷ changes) none = absurd (cc)

-- what a read gives is one of the images that a crash may leave
pub seen_may : (file : File) → MayLeave (surface file) (surface file).seen
seen_may file = record {
  no_shorter = kept-seen file.durable file.changes;
  untouched = λ place lt un. refl;
  unchanged = λ none. refl;
}
