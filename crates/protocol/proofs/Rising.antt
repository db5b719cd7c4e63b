-- Versions that come above their keys' earlier ones.
use Rattle.std.proofs.Common.{◌≡◌, ℕ, Bool, true, false, ◌&&◌, cond, List, [], ◌∷◌, ◌++◌, nat_lt, refl, ap, sym, ◌∙◌, arith}
use Rattle.std.proofs.lemmas.Bool.{and_parts}
use Rattle.std.proofs.lemmas.Bool.Decides.{nat_tests}
use Rattle.std.specs.List.{list_all}
use Rattle.units.specs.Keys.{Bytes, same_key}
use Rattle.units.specs.Versions.{of_key}
use Rattle.units.specs.declared.writes.Install.{Install}
use Rattle.protocol.specs.Showable.{rises_by_key}

-- the versions of a key are below a timestamp
abbrev pub below : List Install → Bytes → ℕ → Bool
below installs key at = list_all (λ j. nat_lt j.at at) (of_key installs key)

pub rise_one : (before : List Install) (i : Install) (is : List Install) → below before i.key i.at ≡ true → rises_by_key (i ∷ before) is ≡ true
    → rises_by_key before (i ∷ is) ≡ true
unfolding rises_by_key
rise_one before i is above rest = rw above rest

pub rise_none : (before : List Install) → rises_by_key before [] ≡ true
unfolding rises_by_key
rise_none before = refl

-- what a list that rises_by_key tells of its first version
pub rise_parts : (before : List Install) (i : Install) (is : List Install) → rises_by_key before (i ∷ is) ≡ true
    → (below before i.key i.at ≡ true) × (rises_by_key (i ∷ before) is ≡ true)
unfolding rises_by_key
rise_parts before i is h = and_parts _ _ h

-- they are below the same timestamps
abbrev pub Alike : List Install → List Install → Type 0
Alike a b = (key : Bytes) (at : ℕ) → below a key at ≡ below b key at

pub alike_more : (a b : List Install) (i : Install) → Alike a b → Alike (i ∷ a) (i ∷ b)
alike_more a b i h key at = by_test (same_key i.key key)
  where
    by_test : (c : Bool) → list_all (λ j. nat_lt j.at at) (cond c (i ∷ of_key a key) (of_key a key)) ≡ list_all (λ j. nat_lt j.at at)
        (cond c (i ∷ of_key b key) (of_key b key))
    by_test true = ap (λ rest. nat_lt i.at at && rest) (h key at)
    by_test false = h key at

and_last : (a b c : Bool) → (a && (b && c)) ≡ ((b && a) && c)
and_last true true c = refl
and_last true false c = refl
and_last false true c = refl
and_last false false c = refl

-- a version may stand in front of the one list or of the other
pub below_more : (acc : List Install) (i : Install) (key : Bytes) (at : ℕ) (rest : List Install) → (below (i ∷ acc) key at && below rest key at) ≡
    (below acc key at && below (i ∷ rest) key at)
below_more acc i key at rest = by_test (same_key i.key key)
  where
    by_test : (c : Bool) → (list_all (λ j. nat_lt j.at at) (cond c (i ∷ of_key acc key) (of_key acc key)) && below rest key at)
        ≡ (below acc key at && list_all (λ j. nat_lt j.at at) (cond c (i ∷ of_key rest key) (of_key rest key)))
    by_test true = sym (and_last (below acc key at) (nat_lt i.at at) (below rest key at))
    by_test false = refl

-- the versions of a list before others, the last first
abbrev stacked : List Install → List Install → List Install
stacked acc [] = acc
stacked acc (i ∷ is) = stacked (i ∷ acc) is

below_stacked : (acc xs : List Install) (key : Bytes) (at : ℕ) → below (stacked acc xs) key at ≡ (below acc key at && below xs key at)
below_stacked acc [] key at = grind (arith, nat_tests)
below_stacked acc (i ∷ xs) key at = below_stacked (i ∷ acc) xs key at ∙ below_more acc i key at xs

stacked_alike : (xs : List Install) → Alike (stacked [] xs) xs
stacked_alike xs key at = below_stacked [] xs key at

rise_alike : (a b news : List Install) → Alike a b → rises_by_key b news ≡ true → rises_by_key a news ≡ true
rise_alike a b [] alike h = rise_none a
rise_alike a b (i ∷ news) alike h =
    let parts = rise_parts b i news h in
    rise_one a i news (alike i.key i.at ∙ parts.0) (rise_alike (i ∷ a) (i ∷ b) news (alike_more a b i alike) parts.1)

rise_end : (acc xs ys : List Install) → rises_by_key acc xs ≡ true → rises_by_key (stacked acc xs) ys ≡ true → rises_by_key acc (xs ++ ys) ≡ true
rise_end acc [] ys h k = k
rise_end acc (i ∷ xs) ys h k =
    let parts = rise_parts acc i xs h in rise_one acc i (xs ++ ys) parts.0 (rise_end (i ∷ acc) xs ys parts.1 k)

-- new versions come behind the others
pub installs_rise : (installs news : List Install) → rises_by_key [] installs ≡ true → rises_by_key installs news ≡ true
    → rises_by_key [] (installs ++ news) ≡ true
installs_rise installs news order more =
    rise_end [] installs news order (rise_alike (stacked [] installs) installs news (stacked_alike installs) more)
