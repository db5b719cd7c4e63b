-- The laws of keys and of their order by bytes.
use Rattle.std.proofs.Common.{◌≡◌, ℕ, true, false, refl, sym, ap, ◌∙◌, arith, List, [], ◌∷◌}
use Rattle.std.proofs.lemmas.Bool.{false≢true}
use Rattle.std.proofs.lemmas.Bool.Decides.{nat_tests}
use Rattle.units.specs.Keys.{same_key, key_before}

pub same_key-refl : (a : List ℕ) → same_key a a ≡ true
same_key-refl [] = refl
same_key-refl (x ∷ xs) = grind (arith, nat_tests, same_key-refl xs)

pub same_key_comm : (a b : List ℕ) → same_key a b ≡ same_key b a
same_key_comm [] [] = refl
same_key_comm [] (y ∷ ys) = refl
same_key_comm (x ∷ xs) [] = refl
same_key_comm (x ∷ xs) (y ∷ ys) = grind (arith, nat_tests, same_key_comm xs ys)

pub same_key-is : (a b : List ℕ) → same_key a b ≡ true → a ≡ b
same_key-is [] [] h = refl
same_key-is [] (y ∷ ys) h = cc
same_key-is (x ∷ xs) [] h = cc
same_key-is (x ∷ xs) (y ∷ ys) h = grind (arith, nat_tests, same_key-is xs ys)

pub key_before-trans : (a b c : List ℕ) → key_before a b ≡ true → key_before b c ≡ true → key_before a c ≡ true
key_before-trans [] [] c h k = absurd (false≢true h)
key_before-trans [] (y ∷ ys) [] h k = absurd (false≢true k)
key_before-trans [] (y ∷ ys) (z ∷ zs) h k = refl
key_before-trans (x ∷ xs) [] c h k = absurd (false≢true h)
key_before-trans (x ∷ xs) (y ∷ ys) [] h k = absurd (false≢true k)
key_before-trans (x ∷ xs) (y ∷ ys) (z ∷ zs) h k = grind (arith, nat_tests, key_before-trans xs ys zs)

pub key_before-irreflexive : (a : List ℕ) → key_before a a ≡ false
key_before-irreflexive [] = refl
key_before-irreflexive (x ∷ xs) = grind (arith, nat_tests, key_before-irreflexive xs)

pub key_before-total : (a b : List ℕ) → same_key a b ≡ false → key_before a b ≡ false → key_before b a ≡ true
key_before-total [] [] h k = cc
key_before-total [] (y ∷ ys) h k = cc
key_before-total (x ∷ xs) [] h k = refl
key_before-total (x ∷ xs) (y ∷ ys) h k = grind (arith, nat_tests, key_before-total xs ys)

-- a key is not before itself
pub same_key-not_before : (a b : List ℕ) → same_key a b ≡ true → key_before a b ≡ false
same_key-not_before a b h = ap (key_before a) (sym (same_key-is a b h)) ∙ key_before-irreflexive a
