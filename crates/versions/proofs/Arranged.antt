-- Versions read in the order of their places.
use Rattle.std.proofs.Common.{◌≡◌, ℕ, zero, suc, ◌+◌, ◌<◌, ◌≤◌, List, [], ◌∷◌, ◌++◌, length, get_or, refl, sym, ap, ◌∙◌, arith}
use Rattle.std.specs.List.{insert}
use Rattle.std.proofs.lemmas.List.{length-map, get_or-map, get_or_append_left, get_or_push, get_or_default}
use Rattle.units.specs.declared.writes.Install.{Install}
use Rattle.versions.specs.Arranged.{no_install, arranged, AreWithin}

-- the place is that of a version
pub place_within : (places : List ℕ) (len k d : ℕ) → AreWithin places len → k < length places → get_or places k d < len
place_within [] len k d within lt = absurd (omega arith)
place_within (p ∷ places) len zero d within lt = within.0
place_within (p ∷ places) len (suc k) d within lt = place_within places len k d within.1 (omega arith)

pub length_arranged : (installs : List Install) (places : List ℕ) → length (arranged installs places) ≡ length places
length_arranged installs places = length-map places (λ p. get_or installs p no_install)

-- what is read in order is what stands at the place
pub arranged_at : (installs : List Install) (places : List ℕ) (k : ℕ) (x d : Install) → AreWithin places (length installs) → k < length places
    → x ≡ get_or installs (get_or places k 0) x → get_or (arranged installs places) k d ≡ x
arranged_at installs places k x d within lt is =
    get_or-map (λ p. get_or installs p no_install) places k 0 d lt
    ∙ get_or_default installs (get_or places k 0) no_install x (place_within places (length installs) k 0 within lt)
    ∙ sym is

cons : {a b : Install} {s t : List Install} → a ≡ b → s ≡ t → a ∷ s ≡ b ∷ t
cons {a} {b} {s} {t} first rest = ap (λ x. x ∷ s) first ∙ ap (λ r. b ∷ r) rest

-- more versions at the end are read at none of the places before
pub still_arranged : (installs more : List Install) (places : List ℕ) → AreWithin places (length installs) →
    arranged (installs ++ more) places ≡ arranged installs places
still_arranged installs more [] within = refl
still_arranged installs more (p ∷ places) within = cons (get_or_append_left installs more no_install p within.0) (still_arranged installs more places within.1)

-- the version at the end is read there
pub last_pushed : (installs : List Install) (x : Install) → get_or (installs ++ x ∷ []) (length installs) no_install ≡ x
last_pushed installs x = get_or_push installs x no_install (length installs) refl

-- a version whose place is put in is put in there
pub insert_is_arranged : (installs : List Install) (places : List ℕ) (k at : ℕ)
    → arranged installs (insert places k at) ≡ insert (arranged installs places) k (get_or installs at no_install)
insert_is_arranged installs places zero at = refl
insert_is_arranged installs [] (suc k) at = refl
insert_is_arranged installs (p ∷ places) (suc k) at = ap (λ r. get_or installs p no_install ∷ r) (insert_is_arranged installs places k at)

-- there are more versions than the places are of
pub within_more : (places : List ℕ) (known len : ℕ) → known ≤ len → AreWithin places known → AreWithin places len
within_more [] known len le within = tt
within_more (p ∷ places) known len le within = (omega (arith, within.0, le), within_more places known len le within.1)

one_more : (places : List ℕ) (len : ℕ) → AreWithin places len → AreWithin places (len + 1)
one_more [] len within = tt
one_more (p ∷ places) len within = (omega (arith, within.0), one_more places len within.1)

-- each place, and that of the version at the end, is that of a version
pub insert_within : (places : List ℕ) (len k : ℕ) → AreWithin places len → AreWithin (insert places k len) (len + 1)
insert_within places len zero within = (omega arith, one_more places len within)
insert_within [] len (suc k) within = (omega arith, tt)
insert_within (p ∷ places) len (suc k) within = (omega (arith, within.0), insert_within places len k within.1)
