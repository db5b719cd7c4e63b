-- Disks of files that were opened, one by one.
use Rattle.std.proofs.Common.{◌≡◌, ◌∙◌, ◌+◌, ◌<◌, ◌++◌, ◌∷◌, [], ℕ, zero, suc, List, Some, ap, arith, drop, get_or, length, map, refl, slice_get, subst}
use Rattle.std.proofs.Common.{sym, take, Result, Ok, Err}
use Rattle.std.specs.Prelude.{IfOk}
use Rattle.std.proofs.lemmas.List.{append-nil, drop_all, map-append, take_all, take_more}
use Rattle.system.specs.Named.{AreNamed}

-- as many in the place of others are all
pub in-place : {D : Type 0} (new old : List D) (n : ℕ) → length new ≡ length old → length old ≡ n → take n (new ++ drop (length new) old) ≡ new
in-place {D = D} new old n count is =
    ap (λ (rest : List D). take n (new ++ rest)) (drop_all (length new) old (omega (arith, count))) ∙ ap (take n) (append-nil new)
    ∙ take_all n new (omega (arith, count, is))

module _ {D : Type 0} (named : List ℕ → D → Type 0) where
  -- one more
  pub one-more : (names : List (List ℕ)) (disks : List D) (name : List ℕ) (disk : D) → AreNamed named names disks → named name disk
      → AreNamed named (names ++ name ∷ []) (disks ++ disk ∷ [])
  one-more [] [] name disk so-far is = (is, tt)
  one-more (n ∷ names) (d ∷ disks) name disk so-far is = (so-far.0, one-more names disks name disk so-far.1 is)
  one-more [] (d ∷ disks) name disk so-far is = absurd so-far
  one-more (n ∷ names) [] name disk so-far is = absurd so-far

  -- of some words the next
  pub next-named : {X : Type 0} (name : X → List ℕ) (words : List X) (i : ℕ) (other : X) (disks more : List D) (disk : D) → i < length words
      → more ≡ disks ++ disk ∷ [] → AreNamed named (map name (take i words)) disks → named (name (get_or words i other)) disk
      → AreNamed named (map name (take (i + 1) words)) more
  next-named name words i other disks more disk lt is so-far one =
      let names : map name (take (i + 1) words) ≡ map name (take i words) ++ name (get_or words i other) ∷ [] =
      ap (map name) (take_more words i other lt) ∙ map-append name (take i words) (get_or words i other ∷ []) in
      subst (λ ns. AreNamed named ns more) (sym names)
      (subst (AreNamed named (map name (take i words) ++ name (get_or words i other) ∷ [])) (sym is)
      (one-more (map name (take i words)) disks (name (get_or words i other)) disk so-far one))

  -- others that have the same names, one by one
  pub same-names : (names : List (List ℕ)) (old new : List D) → length new ≡ length old
      → ((i : ℕ) (name : List ℕ) (before after : D) → slice_get old i ≡ Some before → slice_get new i ≡ Some after → named name before → named name after)
      → AreNamed named names old → AreNamed named names new
  same-names [] [] [] count each is = tt
  same-names [] [] (x ∷ new) count each is = absurd (cc)
  same-names (n ∷ names) (d ∷ old) (x ∷ new) count each is = (
    each zero n d x refl refl is.0,
    same-names names old new (omega (arith, count)) (λ i name before after a b. each (suc i) name before after a b) is.1,
  )
  same-names (n ∷ names) (d ∷ old) [] count each is = absurd (cc)
  same-names [] (d ∷ old) new count each is = absurd is
  same-names (n ∷ names) [] new count each is = absurd is

-- what holds of an answer on disks that keep the model is so of a disk that was opened
pub of-disk : {D T E : Type 0} {keeps : Type 0} (named : D → Type 0) (P : D → T → Type 0) (disk : D) → named disk → (r : Result T E)
    → (keeps → IfOk r (P disk)) → IfOk r (λ t. (d : D) × named d × (keeps → P d t))
of-disk named P disk is (Ok t) holds = (disk, is, holds)
of-disk named P disk is (Err e) holds = tt
