-- Fewer places, beside the versions and heads.
use Rattle.std.proofs.Common.{◌≡◌, ℕ, zero, suc, ◌<◌, List, [], ◌∷◌, length, map, take, get_or, set}
use Rattle.std.proofs.Common.{refl, sym, ap, ◌∙◌, arith}
use Rattle.std.specs.List.{AllByRecursion}
use Rattle.std.proofs.lemmas.List.{take-map, get_or-map, map-set, get_or-take}
use Rattle.units.specs.declared.writes.Install.{Install}
use Rattle.versions.specs.Arranged.{arranged, no_install, AreWithin}
use Rattle.versions.specs.Heads.{AreBytes, head, AreHeads}
use Rattle.versions.proofs.Arranged.{place_within}
use Rattle.versions.proofs.Halves.{each_at}

all_take : {X : Type 0} (P : X → Type 0) (n : ℕ) (t : List X) → AllByRecursion P t → AllByRecursion P (take n t)
all_take P zero t all = tt
all_take P (suc n) [] all = tt
all_take P (suc n) (x ∷ t) all = (all.0, all_take P n t all.1)

all_set : {X : Type 0} (P : X → Type 0) (t : List X) (k : ℕ) (x : X) → P x → AllByRecursion P t → AllByRecursion P (set t k x)
all_set P [] k x here all = tt
all_set P (y ∷ t) zero x here all = (here, all.1)
all_set P (y ∷ t) (suc k) x here all = (all.0, all_set P t k x here all.1)

pub within_taken : (n : ℕ) (places : List ℕ) (len : ℕ) → AreWithin places len → AreWithin (take n places) len
within_taken n places len within = all_take (λ p. p < len) n places within

pub arranged_taken : (n : ℕ) (installs : List Install) (places : List ℕ) → arranged installs (take n places) ≡ take n (arranged installs places)
arranged_taken n installs places = sym (take-map (λ p. get_or installs p no_install) n places)

pub heads_taken : (n : ℕ) (prefix : List ℕ) (t : List Install) (heads : List ℕ) → AreHeads prefix t heads → AreHeads prefix (take n t) (take n heads)
heads_taken n prefix t heads are = record {
  bytes = all_take (λ i. AreBytes i.key) n t are.bytes;
  each = ap (λ (h : List ℕ). take n h) are.each ∙ take-map (λ i. head prefix i.key) n t;
}

-- a place is written over another, with its head
pub within_copied : (places : List ℕ) (len from to : ℕ) → from < length places → AreWithin places len → AreWithin (set places to (get_or places from 0)) len
within_copied places len from to lt within =
    all_set (λ p. p < len) places to (get_or places from 0) (place_within places len from 0 within lt) within

pub arranged_copied : (installs : List Install) (places : List ℕ) (from to : ℕ) → from < length places
    → arranged installs (set places to (get_or places from 0))
    ≡ set (arranged installs places) to (get_or (arranged installs places) from no_install)
arranged_copied installs places from to lt =
    map-set (λ p. get_or installs p no_install) places to (get_or places from 0)
    ∙ ap (λ (x : Install). set (arranged installs places) to x) (sym (get_or-map (λ p. get_or installs p no_install) places from 0 no_install lt))

pub heads_copied : (prefix : List ℕ) (t : List Install) (heads : List ℕ) (from to : ℕ) → from < length t → AreHeads prefix t heads
    → AreHeads prefix (set t to (get_or t from no_install)) (set heads to (get_or heads from 0))
heads_copied prefix t heads from to lt are = record {
  bytes = all_set (λ i. AreBytes i.key) t to (get_or t from no_install) (each_at (λ i. AreBytes i.key) t from no_install are.bytes lt) are.bytes;
  each =
      ap (λ (h : List ℕ). set h to (get_or h from 0)) are.each
      ∙ ap (λ (n : ℕ). set (map (λ (i : Install). head prefix i.key) t) to n) (get_or-map (λ i. head prefix i.key) t from no_install 0 lt)
      ∙ sym (map-set (λ i. head prefix i.key) t to (get_or t from no_install));
}

-- the versions behind the places go
pub arranged_of_taken : (n : ℕ) (installs : List Install) (places : List ℕ) → AreWithin places n → arranged (take n installs) places ≡ arranged installs places
arranged_of_taken n installs [] within = refl
arranged_of_taken n installs (p ∷ places) within =
    ap (λ (x : Install). x ∷ arranged (take n installs) places) (get_or-take n installs p no_install within.0)
    ∙ ap (λ (r : List Install). get_or installs p no_install ∷ r) (arranged_of_taken n installs places within.1)

-- each place is below a number
pub within_each : (places : List ℕ) (len : ℕ) → ((k : ℕ) → k < length places → get_or places k 0 < len) → AreWithin places len
within_each [] len each = tt
within_each (p ∷ places) len each = (each 0 (omega arith), within_each places len (λ k lt. each (suc k) (omega (arith, lt))))
